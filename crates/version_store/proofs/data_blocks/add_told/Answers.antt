use Rattle.std.proofs.Common.{◌≡◌, ℕ, ◌+◌, ◌<◌, ◌++◌, List, [], ◌∷◌, length, take, get_or, Option, sym, ap, ◌∙◌}
use Rattle.std.proofs.lemmas.List.{take_all, take_more, flat_map_more}
use Rattle.s4_types.specs.Pointer.{Place}
use Rattle.codec.specs.Entry.{EntryFields}
use Rattle.version_store.specs.Store.{sides_of, sides_told}
use Rattle.version_store.proofs.data_blocks.add_told.Goals as goal

-- the pointers of one entry more
one_more : (start now new : List (Option Place)) (entries : List EntryFields) (i : ℕ) (e : EntryFields) → i < length entries → e ≡ get_or entries i e → now ≡ start ++ sides_told (take i entries) → new ≡ now ++ sides_of e.triples → new ≡ start ++ sides_told (take (i + 1) entries)
one_more start now new entries i e below at was is =
    is ∙ ap (λ (pointers : List (Option Place)). pointers ++ sides_of e.triples) was ∙ flat_map_more (λ (e : EntryFields). sides_of e.triples) start (take i entries) e
    ∙ ap (λ (front : List EntryFields). start ++ sides_told front) (ap (λ (e : EntryFields). take i entries ++ e ∷ []) at ∙ sym (take_more entries i e below))

pub loop-entry-preserved : goal.loop-entry-preserved
loop-entry-preserved c =
    one_more c.args.pointers.now.items c.loop-entry.pointers.items c.add_sides.new.pointers.items c.args.entries.now c.loop-entry.entry-index c.entry-item.result c.loop-entry-test.true c.entry-item.is c.loop-entry.invariant c.in_ok-add_sides.ensures.added

pub returns : goal.returns
returns c = record {
  added = c.loop-entry.invariant ∙ ap (λ (entries : List EntryFields). c.args.pointers.now.items ++ sides_told entries) (take_all c.loop-entry.entry-index c.args.entries.now c.loop-entry-test.false);
  refusal = tt;
}
