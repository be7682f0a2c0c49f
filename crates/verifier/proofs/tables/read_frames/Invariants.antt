use Rattle.verifier.proofs.Frames.{AreSet}
use Rattle.verifier.proofs.tables.read_frames.Given as goal

abbrev pub invariant-loop-frame : goal.invariant-loop-frame
invariant-loop-frame l = AreSet l.parts.frames l.number l.has_open l.frame-iterator l.table
