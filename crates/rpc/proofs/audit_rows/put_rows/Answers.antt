use Rattle.std.proofs.Common.{List, subst}
use Rattle.std.specs.List.{AllByRecursion, flat_map}
use Rattle.std.proofs.lemmas.List.{take_all}
use Rattle.s4_types.specs.declared.audit_rows.AuditRow.{AuditRow}
use Rattle.rpc.specs.Spelling.{row_spelling, RowNumbers}
use Rattle.rpc.specs.private.Room.{Appended}
use Rattle.rpc.proofs.RoomLaws.{Appended-nothing}
use Rattle.rpc.proofs.RowLaws.{row_room, rows_more, numbers_more}
use Rattle.rpc.proofs.audit_rows.put_rows.Goals as goal

pub loop-row-init : goal.loop-row-init
loop-row-init c = record { bytes = Appended-nothing c.args.out.now; range = tt }

pub put_row-requires : goal.put_row-requires
put_row-requires c = row_room c.args.out.now c.loop-row.out c.args.rows.now c.loop-row.row-index c.requires c.loop-row.invariant.bytes c.loop-row-test.true

pub loop-row-preserved : goal.loop-row-preserved
loop-row-preserved c = record {
  bytes = rows_more c.args.out.now c.loop-row.out c.put_row.new.out c.args.rows.now c.loop-row.row-index c.row-item.result c.loop-row-test.true c.loop-row.invariant.bytes
      (subst (λ (row : AuditRow). Appended c.loop-row.out c.put_row.new.out (row_spelling row)) c.row-item.is c.put_row.ensures.bytes);
  range = numbers_more c.args.rows.now c.loop-row.row-index c.row-item.result c.loop-row-test.true c.loop-row.invariant.range (subst RowNumbers c.row-item.is c.put_row.ensures.range);
}

pub returns-clause-bytes : goal.returns-clause-bytes
returns-clause-bytes c =
    subst (λ (rows : List AuditRow). Appended c.args.out.now c.loop-row.out (flat_map row_spelling rows)) (take_all c.loop-row.row-index c.args.rows.now c.loop-row-test.false) c.loop-row.invariant.bytes

pub returns-clause-range : goal.returns-clause-range
returns-clause-range c = subst (AllByRecursion RowNumbers) (take_all c.loop-row.row-index c.args.rows.now c.loop-row-test.false) c.loop-row.invariant.range
