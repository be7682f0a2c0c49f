use Rattle.std.specs.Prelude.{IfSome}
use Rattle.std.proofs.Common.{◌≡◌, true, []}
use Rattle.std.proofs.lemmas.List.Elements.{All-contains, All-from_recursion}
use Rattle.block_log.proofs.Places.{same_place_itself}
use Rattle.checkpoint.specs.Held.{is_one_of}
use Rattle.migration.specs.Places.{data_places, data_pointers}
use Rattle.migration.proofs.Ascending.{ascend_with}
use Rattle.migration.proofs.Mapping.{is_told}
use Rattle.migration.proofs.Sorting.{with_has}
use Rattle.migration.proofs.laws.places_of_data_ascend.Goals as goal

pub returns : goal.returns
returns c = record {
  ascend = λ kept entries. ascend_with [] (data_pointers kept entries) tt;
  each = λ kept entries p there. All-contains (λ s. IfSome s (λ q. is_one_of (data_places kept entries) q ≡ true)) (data_pointers kept entries) _
      (All-from_recursion (λ s. IfSome s (λ q. is_one_of (data_places kept entries) q ≡ true)) (data_pointers kept entries) (with_has same_place_itself [] (data_pointers kept entries))) there;
  only = λ kept entries p is. is_told c.one_place_has_one_name.ensures (data_pointers kept entries) p is;
}
