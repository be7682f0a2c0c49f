use Rattle.earlier_images.proofs.FramesRead.{HaveRead}
use Rattle.earlier_images.proofs.frames.read_frames.Given as goal

abbrev pub invariant-loop-part : goal.invariant-loop-part
invariant-loop-part l = HaveRead l.version l.parts.frames l.number l.has_open l.part-iterator l.frames.items
