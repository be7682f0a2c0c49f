use Rattle.std.proofs.Common.{◌≡◌}
use Rattle.verifier.proofs.SavedFrames.{AreAdded}
use Rattle.verifier.proofs.saved_frames.push_frames.Given as goal

abbrev pub invariant-loop-frame : goal.invariant-loop-frame
invariant-loop-frame g l = record {
  same : l.frames ≡ l.initial.frames;
  added : AreAdded (g.F.OverFrames.table l.initial.frames) l.frame l.initial.out.items l.out.items;
}
