use Rattle.std.proofs.Common.{◌∷◌, ◌++◌, [], List, ap, sym, ◌∙◌, append_assoc, append-nil}
use Rattle.codec.specs.Entry.{EntryFields}
use Rattle.chain_rewriting.proofs.cleaning.append.Goals as goal

pub loop-entry-init : goal.loop-entry-init
loop-entry-init c =
    let old = c.args.entries.now.items in
    let first = c.into_parts-first.result.0 in
    let left = c.into_iter-entry-iterator.result in
    ap (λ (l : List EntryFields). l ++ left) c.in_ok-push.ensures.items ∙ append_assoc old (first ∷ []) left ∙ ap (λ (l : List EntryFields). old ++ first ∷ l) c.into_iter-entry-iterator.ensures.into_iter_gives
    ∙ ap (λ (l : List EntryFields). old ++ l) (sym c.into_parts-first.ensures)

pub loop-entry-preserved : goal.loop-entry-preserved
loop-entry-preserved c =
    let old = c.loop-entry.entries.items in
    let entry = c.in-Some.entry in
    let rest = c.next.new.self in
    ap (λ (l : List EntryFields). l ++ rest) c.in_ok-push-2.ensures.items ∙ append_assoc old (entry ∷ []) rest ∙ ap (λ (l : List EntryFields). old ++ l) (sym c.in-Some.ensures.steps) ∙ c.loop-entry.invariant

pub returns-clause-items : goal.returns-clause-items
returns-clause-items c =
    let items = c.loop-entry.entries.items in
    sym (append-nil items) ∙ ap (λ (l : List EntryFields). items ++ l) (sym c.in-None.ensures.steps.0) ∙ c.loop-entry.invariant
