use Rattle.std.proofs.Common.{◌≡◌, ◌+◌, ◌∷◌, drop, List, sym, ap, ◌∙◌}
use Rattle.std.proofs.lemmas.List.{drop_more}
use Rattle.s4_types.specs.Pointer.{Place}
use Rattle.codec.specs.declared.entries.Triple.{Triple}
use Rattle.codec.specs.Entry.{EntryFields}
use Rattle.version_store.specs.Store.{sides_of, sides_told}
use Rattle.migration.specs.Places.{with_places}
use Rattle.migration.proofs.Sorting.{with_join}
use Rattle.migration.proofs.places.put_entries.Goals as goal

pub loop-entry-preserved : goal.loop-entry-preserved
loop-entry-preserved c =
    let i = c.loop-entry.entry-index in
    let entries = c.args.entries.now in
    let entry = c.entry-item.result in
    let rest = drop (i + 1) entries in
    let split : drop i entries ≡ entry ∷ rest = drop_more entries i entry c.loop-entry-test.true ∙ ap (λ (x : EntryFields). x ∷ rest) (sym c.entry-item.is) in
    ap (λ (x : List Place). with_places x (sides_told rest)) (c.in_ok-put_sides.ensures.places ∙ ap (λ (ts : List Triple). with_places c.loop-entry.places.items (sides_of ts)) c.triples.ensures.triples)
    ∙ with_join c.loop-entry.places.items (sides_of entry.triples) (sides_told rest)
    ∙ ap (λ (es : List EntryFields). with_places c.loop-entry.places.items (sides_told es)) (sym split)
    ∙ c.loop-entry.invariant
