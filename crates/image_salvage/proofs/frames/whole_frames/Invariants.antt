-- As far as the loop has come, the frames were seen, and those that are lost were noted.
use Rattle.image_salvage.specs.Frames.{AreLostOf}
use Rattle.image_salvage.proofs.Seeing.{SeesSoFar}
use Rattle.image_salvage.proofs.frames.whole_frames.Given as goal

abbrev pub invariant-loop-frame : goal.invariant-loop-frame
invariant-loop-frame l = record {
  seen : SeesSoFar l.parts.frames l.number l.frame-iterator l.table;
  lost : AreLostOf l.parts.frames l.number l.lost.items;
}
