use Rattle.std.proofs.Common.{◌≡◌, ◌∙◌, ◌+◌, ◌++◌, ◌<◌, ◌≤◌, ℕ, List, [], ◌∷◌, length, drop, get_or, cond, nat_lt, ap, ap₂, sym, subst}
use Rattle.codec.specs.Entry.{EntryFields}
use Rattle.version_store.specs.Versions.{entries_of_object}
use Rattle.drive.specs.Fields.{state_in, store_of}
use Rattle.history_view.specs.Listing.{seen_from}
use Rattle.history_export.specs.Versions.{begins, begun_behind}
use Rattle.history_export.proofs.Seen.{entry_reached}
use Rattle.history_export.proofs.Later.{begun_on, all_begun}
use Rattle.history_export.proofs.begun.beginnings_by.Goals as goal

pub loop-entry-init : goal.loop-entry-init
loop-entry-init g c =
    let s = state_in c.args.drive.now in
    let o = c.args.object in
    let r = c.first_seen-first.result in
    let entries = c.args.entries.now in
    let same : r ≡ seen_from s o s.floor = c.first_seen-first.ensures.first ∙ ap (seen_from s o) c.floor.ensures in
    let items : c.push.new.self.items ≡ r ∷ [] = c.in_ok-push.ensures.items ∙ ap (λ (l : List ℕ). l ++ r ∷ []) c.new-moments.ensures.items in
    ap (λ (t : ℕ). t ∷ begun_behind s o t entries) (sym same) ∙ sym (ap (λ (l : List ℕ). l ++ begun_behind s o r entries) items)

pub first_seen-moment-requires : goal.first_seen-moment-requires
first_seen-moment-requires g c =
    let s = state_in c.args.drive.now in
    let store = store_of c.args.drive.now in
    let o = c.args.object in
    let i = c.loop-entry.entry-index in
    let e = c.entry-item.result in
    let lt : i < length (entries_of_object store o) = subst (λ (es : List EntryFields). i < length es) c.requires.entries c.loop-entry-test.true in
    let is : e ≡ get_or (entries_of_object store o) i e = subst (λ (es : List EntryFields). e ≡ get_or es i e) c.requires.entries c.entry-item.is in
    record { reached = subst (λ (n : ℕ). n ≤ s.clock) (sym c.moment.ensures) (entry_reached s store o i e c.rules.ensures.store c.rules.ensures.past lt is) }

pub loop-entry-preserved : goal.loop-entry-preserved
loop-entry-preserved g c =
    let s = state_in c.args.drive.now in
    let o = c.args.object in
    let entries = c.args.entries.now in
    let i = c.loop-entry.entry-index in
    let e = c.entry-item.result in
    let last = c.loop-entry.last in
    let items = c.loop-entry.moments.items in
    let m = seen_from s o e.moment in
    let is : c.first_seen-moment.result ≡ m = c.first_seen-moment.ensures.first ∙ ap (seen_from s o) c.moment.ensures in
    let moved : c.in_ok-last.last ≡ cond (begins s o last e) m last = c.in_ok-last.ensures.last ∙ ap (λ (x : ℕ). cond (nat_lt last x) x last) is in
    let grown : c.push_later.new.moments.items ≡ items ++ cond (begins s o last e) (m ∷ []) [] = c.in_ok-last.ensures.moments ∙ ap (λ (x : ℕ). items ++ cond (nat_lt last x) (x ∷ []) []) is in
    c.loop-entry.invariant ∙ begun_on s o last entries i e items c.loop-entry-test.true c.entry-item.is
    ∙ sym (ap₂ (λ (ts : List ℕ) (t : ℕ). ts ++ begun_behind s o t (drop (i + 1) entries)) grown moved)

pub returns : goal.returns
returns g c =
    let s = state_in c.args.drive.now in
    let o = c.args.object in
    let first = seen_from s o s.floor in
    record {
      moments = sym (all_begun s o c.loop-entry.last c.args.entries.now c.loop-entry.entry-index c.loop-entry.moments.items c.loop-entry-test.false)
          ∙ sym c.loop-entry.invariant ∙ ap (λ (es : List EntryFields). first ∷ begun_behind s o first es) c.requires.entries;
    }
