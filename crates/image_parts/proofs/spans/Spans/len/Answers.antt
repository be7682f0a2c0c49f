use Rattle.std.proofs.Common.{ap, sym, ◌∙◌, length}
use Rattle.image_parts.proofs.RowLists.{spans_count}
use Rattle.image_parts.proofs.spans.Spans.len.Goals as goal

pub returns : goal.returns
returns c = sym (spans_count c.self.inside.count c.self.inside.bytes.now) ∙ ap length c.self.view_is
