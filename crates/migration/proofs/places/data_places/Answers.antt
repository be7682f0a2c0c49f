use Rattle.std.proofs.Common.{rules, ◌≡◌, [], List, ap, ◌∙◌}
use Rattle.std.specs.Prelude.{option_copied}
use Rattle.s4_types.specs.Pointer.{Place}
use Rattle.version_store.specs.Store.{sides_told}
use Rattle.migration.specs.Places.{with_places, pointers_in}
use Rattle.migration.proofs.Sorting.{with_join}
use Rattle.migration.proofs.places.data_places.Goals.{in-Some+in_ok-put_slots, in_default}
use Rattle.migration.proofs.places.data_places.Goals as goal

pub returns-clause-places : goal.returns-clause-places
returns-clause-places c =
    let entries = c.args.entries.now in
    let first : c.match-kept.places.items ≡ with_places [] (pointers_in (option_copied c.args.kept)) = elim c.match-kept.branch [
      | in-Some+in_ok-put_slots w ↦ search rules
      | in_default w ↦ search rules
    ] in
    c.in_ok-put_entries.ensures.places ∙ ap (λ (x : List Place). with_places x (sides_told entries)) first ∙ with_join [] (pointers_in (option_copied c.args.kept)) (sides_told entries)
