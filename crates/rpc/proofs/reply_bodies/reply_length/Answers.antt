use Rattle.std.proofs.Common.{arith}
use Rattle.rpc.proofs.RowLaws.{rows_length}
use Rattle.rpc.proofs.reply_bodies.reply_length.Goals as goal

pub returns-in-AuditRows-clause-length : goal.returns-in-AuditRows-clause-length
returns-in-AuditRows-clause-length c = rw c.in-AuditRows.is (omega (arith, c.len-in-AuditRows.ensures, rows_length c.in-AuditRows.rows))
