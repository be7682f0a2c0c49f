-- The rows of a drive are saved one by one.
use Rattle.std.proofs.Common.{◌≡◌, inl, inr, ℕ, ◌<◌, ◌≤◌, List, [], ◌∷◌, ◌++◌, Some, None, sym, subst, ◌∙◌, arith}
use Rattle.std.proofs.lemmas.List.{map-append}
use Rattle.std.proofs.lemmas.Bool.{cases_eq, cases_lt}
use Rattle.std.proofs.SliceLists.{all_by_recursion_push}
use Rattle.lemmas.proofs.List.{all_weaker}
use Rattle.object_map.specs.declared.map.Row.{Row}
use Rattle.object_map.specs.Objects.{IsNextAbove}
use Rattle.object_map.specs.Rows.{row_of}
use Rattle.image_parts.specs.Rows.{IsRow}
use Rattle.image_parts.specs.declared.rows.RowPart.{RowPart}
use Rattle.image_objects.specs.declared.rows.ImageRow.{ImageRow}
use Rattle.image_objects.specs.Saved.{saved_row, saved_rows}
use Rattle.verifier.specs.Rows.{SpellsRow, SpellRows}
use Rattle.verifier.specs.SavedRows.{AreSavedUpTo, AreSaved}
use Rattle.verifier.proofs.ListedRows.{none_beyond, found_as_before, found_last, ascend_push}
use Rattle.verifier.proofs.SpelledRows.{rows_push}

-- none is saved yet, where no row is of object 0
pub none_saved : (all : List (ℕ × Row)) → row_of all 0 ≡ None → AreSavedUpTo all 0 []
none_saved all none = record {
  rows = [];
  ascending = tt;
  below = tt;
  listed = λ o le. (let is : 0 ≡ o = omega arith in subst (λ (k : ℕ). row_of [] k ≡ row_of all k) is (sym none));
  spelled = tt;
  is = tt;
}

-- the row of the next object is saved
pub saved_on : (all : List (ℕ × Row)) (last o : ℕ) (parts : List RowPart) (row : Row) (part : RowPart) → AreSavedUpTo all last parts → IsNextAbove all last o → row_of all o ≡ Some row
    → SpellsRow part (saved_row o row) → IsRow part → AreSavedUpTo all o (parts ++ part ∷ [])
saved_on all last o parts row part saved next found spells is =
    let lt : last < o = next.above in
    record {
      rows = saved.rows ++ (o, row) ∷ [];
      ascending = ascend_push saved.rows 1 last o row saved.ascending saved.below (omega arith) lt;
      below = all_by_recursion_push (λ (e : ℕ × Row). e.0 ≤ o) saved.rows (o, row) (all_weaker (λ (e : ℕ × Row). e.0 ≤ last) (λ (e : ℕ × Row). e.0 ≤ o) saved.rows (λ e le. omega (arith, le)) saved.below) (omega arith);
      listed = λ k le. elim (cases_eq k o) [
        | inl same ↦ subst (λ (q : ℕ). row_of (saved.rows ++ (o, row) ∷ []) q ≡ row_of all q) (sym same) (found_last saved.rows last o row saved.below lt ∙ sym found)
        | inr apart ↦ found_as_before saved.rows k o row apart ∙ elim (cases_lt last k) [
          | inl after ↦ none_beyond saved.rows last k saved.below after ∙ sym (next.least k after (omega arith))
          | inr up ↦ saved.listed k up
        ]
      ];
      spelled = subst (λ (xs : List ImageRow). SpellRows (parts ++ part ∷ []) xs) (sym (map-append (λ (e : ℕ × Row). saved_row e.0 e.1) saved.rows ((o, row) ∷ []))) (rows_push parts (saved_rows saved.rows) part (saved_row o row) saved.spelled spells);
      is = all_by_recursion_push IsRow parts part saved.is is;
    }

-- all are saved, where none is after the last
pub all_saved : (all : List (ℕ × Row)) (last : ℕ) (parts : List RowPart) → AreSavedUpTo all last parts → ((o : ℕ) → last < o → row_of all o ≡ None) → AreSaved all parts
all_saved all last parts saved none = record {
  rows = saved.rows;
  ascending = saved.ascending;
  listed = λ o. elim (cases_lt last o) [
    | inl after ↦ none_beyond saved.rows last o saved.below after ∙ sym (none o after)
    | inr up ↦ saved.listed o up
  ];
  spelled = saved.spelled;
  is = saved.is;
}
