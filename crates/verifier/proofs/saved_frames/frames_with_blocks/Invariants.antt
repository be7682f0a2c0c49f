use Rattle.std.proofs.Common.{◌≡◌, ◌≤◌}
use Rattle.verifier.proofs.saved_frames.frames_with_blocks.Given as goal

abbrev pub invariant-loop-frame : goal.invariant-loop-frame
invariant-loop-frame g l = (l.frames ≡ l.initial.frames) × (l.count ≤ l.frame)
