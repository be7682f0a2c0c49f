use Rattle.image_parts.proofs.RowLists.{span_got, no_span}
use Rattle.image_parts.proofs.spans.Spans.get.Goals as goal

pub returns-then-index-self : goal.returns-then-index-self
returns-then-index-self c = no_span c.args.self.now c.self.inside.count c.args.index c.self.inside.bytes.now c.self.view_is c.if-index-self.true

pub returns : goal.returns
returns c = span_got c.args.self.now c.self.inside.count c.args.index c.self.inside.bytes.now c.split_at.result.1.now c.first_span.result c.self.view_is c.if-index-self.false c.split_at.ensures.back c.first_span.ensures
