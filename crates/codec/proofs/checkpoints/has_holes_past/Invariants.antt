use Rattle.std.proofs.Common.{◌≡◌, drop}
use Rattle.codec.specs.Checkpoint.{holes_past}
use Rattle.codec.proofs.checkpoints.has_holes_past.Given as goal

abbrev pub invariant-loop-pointer : goal.invariant-loop-pointer
invariant-loop-pointer l = holes_past l.left (drop l.pointer-index l.pointers) ≡ holes_past l.size l.pointers
