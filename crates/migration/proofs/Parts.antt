-- The parts of rows, one after the other.
use Rattle.std.proofs.Common.{◌≡◌, ℕ, zero, suc, ◌<◌, List, [], ◌∷◌, ◌++◌, length, take, get_or, refl, ap, arith}
use Rattle.std.specs.List.{AllByRecursion}
use Rattle.object_map.specs.declared.map.Row.{Row}
use Rattle.image_parts.specs.Rows.{IsRow}
use Rattle.image_parts.specs.declared.rows.RowPart.{RowPart}
use Rattle.image_objects.specs.declared.rows.ImageRow.{ImageRow}
use Rattle.image_objects.specs.Saved.{saved_row}
use Rattle.migration.specs.Migrated.{rows_then}

pub are_push : (parts : List RowPart) (part : RowPart) → AllByRecursion IsRow parts → IsRow part → AllByRecursion IsRow (parts ++ part ∷ [])
are_push [] part are one = (one, tt)
are_push (p ∷ parts) part are one = (are.0, are_push parts part are.1 one)

pub then_more : (i : ℕ) (rows : List ImageRow) (laters : List Row) (row : ImageRow) (later : Row) → i < length rows → i < length laters
    → rows_then (take (suc i) rows) (take (suc i) laters) ≡ rows_then (take i rows) (take i laters) ++ saved_row (get_or rows i row).object (get_or laters i later) ∷ []
then_more i [] laters row later in_rows in_laters = absurd (omega (arith, in_rows))
then_more i (r ∷ rows) [] row later in_rows in_laters = absurd (omega (arith, in_laters))
then_more zero (r ∷ rows) (l ∷ laters) row later in_rows in_laters = refl
then_more (suc i) (r ∷ rows) (l ∷ laters) row later in_rows in_laters = ap (λ (x : List ImageRow). saved_row r.object l ∷ x) (then_more i rows laters row later (omega (arith, in_rows)) (omega (arith, in_laters)))
