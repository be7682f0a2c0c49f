use Rattle.std.proofs.Common.{◌≡◌, ◌++◌, take}
use Rattle.std.specs.List.{flat_map}
use Rattle.image_parts.specs.Rows.{row_bytes}
use Rattle.verifier.proofs.saved_rows.push_rows.Given as goal

abbrev pub invariant-loop-row : goal.invariant-loop-row
invariant-loop-row l = l.out.items ≡ l.initial.out.items ++ flat_map row_bytes (take l.row-index l.rows)
