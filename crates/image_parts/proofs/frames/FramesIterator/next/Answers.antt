use Rattle.image_parts.proofs.FrameLists.{rest_fits}
use Rattle.image_parts.proofs.frames.FramesIterator.next.Goals as goal

pub invariant_of-self : goal.invariant_of-self
invariant_of-self c = rest_fits c.self.inside.count c.self.inside.bytes.now c.in_ok-frame.rest.now c.if-self-eq0.false c.self.invariant c.in_ok-frame.ensures.1
