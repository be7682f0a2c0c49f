use Rattle.std.proofs.Common.{ap, sym, ◌∙◌, length}
use Rattle.image_parts.proofs.RowLists.{rows_count}
use Rattle.image_parts.proofs.rows.Rows.len.Goals as goal

pub returns : goal.returns
returns c = sym (rows_count c.self.inside.count c.self.inside.bytes.now) ∙ ap length c.self.view_is
