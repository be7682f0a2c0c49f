use Rattle.image_parts.proofs.FrameLists.{Passed}
use Rattle.image_parts.proofs.frames.behind_frames.Given as goal

abbrev pub invariant-loop : goal.invariant-loop
invariant-loop l = Passed l.count l.counter l.bytes l.rest
