use Rattle.std.proofs.Common.{List, subst}
use Rattle.std.specs.List.{flat_map}
use Rattle.s4_types.specs.declared.audit_rows.AuditRow.{AuditRow}
use Rattle.rpc.specs.Spelling.{row_spelling}
use Rattle.rpc.specs.private.Room.{Appended}
use Rattle.rpc.proofs.RoomLaws.{Appended-then}
use Rattle.rpc.proofs.reply_bodies.put_audit_rows.Goals as goal

pub returns-clause-bytes : goal.returns-clause-bytes
returns-clause-bytes c =
    let rows = subst (λ (rows : List AuditRow). Appended c.put.new.out c.put_rows.new.out (flat_map row_spelling rows)) c.as_slice.ensures c.put_rows.ensures.bytes in
    Appended-then _ _ _ _ _ c.put.ensures rows
