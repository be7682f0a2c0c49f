use Rattle.std.proofs.Common.{ap, sym, ◌∙◌, length}
use Rattle.image_parts.proofs.FrameLists.{frames_count}
use Rattle.image_parts.proofs.frames.Frames.len.Goals as goal

pub returns : goal.returns
returns c = sym (frames_count c.self.inside.count c.self.inside.bytes.now) ∙ ap length c.self.view_is
