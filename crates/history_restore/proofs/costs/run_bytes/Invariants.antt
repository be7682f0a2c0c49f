use Rattle.std.proofs.Common.{◌≡◌, min, take}
use Rattle.s4_model.specs.Refusals.{last_number}
use Rattle.history_restore.specs.Joining.{run_bytes}
use Rattle.history_restore.proofs.costs.run_bytes.Given as goal

-- the bytes of the runs so far
abbrev pub invariant-loop-run : goal.invariant-loop-run
invariant-loop-run l = l.bytes ≡ min last_number (run_bytes (take l.run-index l.runs))
