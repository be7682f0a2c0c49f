use Rattle.std.proofs.Common.{◌≡◌, ◌==◌, ◌||◌, ℕ}
use Rattle.std.specs.BTreeSet.{contains}
use Rattle.std.specs.List.{list_any}
use Rattle.std.specs.Ordering.{nat_cmp}
use Rattle.image_parts.specs.declared.rows.RowPart.{RowPart}
use Rattle.s4_copy.specs.Asking.{has_row}
use Rattle.s4_copy.proofs.asking.objects_in.Given as goal

-- the objects of the rows so far, and those of the others
abbrev pub invariant-loop-row : goal.invariant-loop-row
invariant-loop-row l = (o : ℕ) → (contains nat_cmp l.objects o || list_any (λ (row : RowPart). row.object == o) l.row-iterator) ≡ has_row l.parts o
