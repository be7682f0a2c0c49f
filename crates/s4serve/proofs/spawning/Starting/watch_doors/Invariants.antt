use Rattle.std.proofs.Common.{length, take, vec_len}
use Rattle.std.specs.List.{AllZip}
use Rattle.s4serve.specs.Doors.{ReadsAt}
use Rattle.s4serve.proofs.spawning.Starting.watch_doors.Given as goal

-- the first doors have the inputs that are left
abbrev pub invariant-loop-input : goal.invariant-loop-input
invariant-loop-input g l = record { inputs : AllZip (ReadsAt g.D.Fifos.reads) (take (length l.inputs.items) g.J.Serving.doors) l.inputs.items }

-- the number of those
abbrev pub decreases-loop-input : goal.decreases-loop-input
decreases-loop-input g l = vec_len l.inputs
