use Rattle.std.proofs.Common.{take}
use Rattle.std.specs.List.{AllByRecursion, flat_map}
use Rattle.rpc.specs.Spelling.{row_spelling, RowNumbers}
use Rattle.rpc.specs.private.Room.{Appended}
use Rattle.rpc.proofs.audit_rows.put_rows.Given as goal

abbrev pub invariant-loop-row : goal.invariant-loop-row
invariant-loop-row l = record {
  bytes : Appended l.fn.out l.out (flat_map row_spelling (take l.row-index l.rows));
  range : AllByRecursion RowNumbers (take l.row-index l.rows);
}
