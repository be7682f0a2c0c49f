use Rattle.std.proofs.Common.{◌≡◌, ℕ, ◌+◌, true, ◌++◌, List, sym, ap, ◌∙◌, subst}
use Rattle.std.proofs.lemmas.Option.{same_Some}
use Rattle.s4_types.specs.Pointer.{Place}
use Rattle.block_log.specs.Log.{is_data}
use Rattle.codec.specs.Entry.{EntryFields}
use Rattle.journal_chain.specs.Chain.{times}
use Rattle.segment_table.specs.Slots.{capped}
use Rattle.segment_table.specs.Table.{held_at, named_at}
use Rattle.segment_table.specs.Used.{used_at}
use Rattle.version_store.specs.Store.{times_led}
use Rattle.image_objects.specs.declared.version_chains.VersionChain.{VersionChain}
use Rattle.image_objects.specs.Read.{IsRead}
use Rattle.image_objects.specs.Objects.{ObjectStands, pointers_used}
use Rattle.image_objects.specs.Moments.{moments_of_chain}
use Rattle.verifier.specs.private.Holding.{HoldsAlso}
use Rattle.verifier.proofs.Holding.{AreNamed, at_some, holds_more, only_named}
use Rattle.verifier.proofs.Counting.{counted_alone, names_more}
use Rattle.verifier.proofs.objects.ReadRows.read_row.Goals as goal

pub push_named-requires-clause-entries : goal.push_named-requires-clause-entries
push_named-requires-clause-entries c = (at_some c.in_ok-versions.field-0 c.in-Some-2.versions (IsRead (used_at c.args.self.now.table) c.in-Some.row) c.in-Some-2.is c.in_ok-versions.ensures.read).entries

pub returns-clause-read : goal.returns-clause-read
returns-clause-read c =
    let used = used_at c.args.self.now.table in
    let row = c.in-Some.row in
    let found = c.in_ok-versions.field-0 in
    let versions = c.in-Some-2.versions in
    let is = c.in-Some-2.is in
    let told = c.in_ok-versions.ensures in
    let stands : ObjectStands used row c.args.clock = at_some found versions (λ (h : VersionChain). ObjectStands used row c.args.clock) is told.stands in
    let read : IsRead used row versions = at_some found versions (IsRead used row) is told.read in
    let places = c.push_named.new.places.items in
    let named : AreNamed used row places = record {
      only = only_named used row c.clear.new.self.items places c.clear.ensures.items c.in_ok-push_named.ensures.only;
      all = c.in_ok-push_named.ensures.all;
      used_there = λ kind p names. c.what_a_row_names_is_used.ensures.named used row c.args.clock kind p stands names;
    } in
    let old = held_at c.args.self.now.table in
    let new = held_at c.hold_all.new.table in
    let also : HoldsAlso used old new places = subst (λ (l : List Place). HoldsAlso used old new l) c.as_slice-2.ensures.value c.hold_all.ensures.also in
    let names = named_at c.args.self.now.table in
    let after = named_at c.hold_all.new.table in
    let N : List Place → Type 0 = λ l. (p : Place) (n : ℕ) → is_data (used p) ≡ true → names p ≡ capped n → after p ≡ capped (n + times p l) in
    let given : N places = subst N c.as_slice-2.ensures.value c.hold_all.ensures.named in
    let counted : (p : Place) → is_data (used p) ≡ true → times p places ≡ times_led p (pointers_used used row) =
    λ p of_data. counted_alone p c.clear.new.self.items places (times_led p (pointers_used used row)) c.clear.ensures.items (c.in_ok-push_named.ensures.counted p of_data) in
    record {
      row = row;
      spelled = c.in-Some.ensures.found;
      only = λ other s. sym (same_Some row other (c.in-Some.ensures.only other s));
      stands = stands;
      opened = c.kept_of.result;
      kept = c.kept_of.ensures used read;
      objects = c.in_ok-push.ensures.items;
      moments = c.in_ok-push_moments.ensures.moments ∙ ap (λ (es : List EntryFields). c.args.self.now.moments.items ++ moments_of_chain es) (c.as_slice.ensures.value ∙ read.entries);
      held = λ rows h. holds_more used old new rows row places named also h;
      named = λ rows h. names_more used names after rows row places given counted h;
      alike = c.hold_all.ensures.alike;
    }
