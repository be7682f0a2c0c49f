use Rattle.std.proofs.Common.{◌≡◌, ◌-◌}
use Rattle.rpc.specs.private.Reading.{rows_at, with_front}
use Rattle.rpc.proofs.audit_rows.read_rows.Given as goal

-- the rows so far, and those of what is left, are all
abbrev pub invariant-loop : goal.invariant-loop
invariant-loop l = with_front l.rows.items (rows_at (l.most - l.counter) l.rest) ≡ rows_at l.most l.bytes
