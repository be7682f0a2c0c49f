use Rattle.image_parts.proofs.RowLists.{row_got, no_row}
use Rattle.image_parts.proofs.rows.Rows.get.Goals as goal

pub returns-then-index-self : goal.returns-then-index-self
returns-then-index-self c = no_row c.args.self.now c.self.inside.count c.args.index c.self.inside.bytes.now c.self.view_is c.if-index-self.true

pub returns : goal.returns
returns c = row_got c.args.self.now c.self.inside.count c.args.index c.self.inside.bytes.now c.split_at.result.1.now c.first_row.result c.self.view_is c.if-index-self.false c.split_at.ensures.back c.first_row.ensures
