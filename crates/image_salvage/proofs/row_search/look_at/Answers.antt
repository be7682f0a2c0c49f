use Rattle.std.proofs.Common.{arith}
use Rattle.segment_table.specs.Used.{used_at}
use Rattle.image_salvage.proofs.RowFinding.{searched_frame}
use Rattle.image_salvage.proofs.row_search.look_at.Goals as goal

pub returns-in_default-clause-finds : goal.returns-in_default-clause-finds
returns-in_default-clause-finds c =
    searched_frame (used_at c.args.table.now) c.args.bytes.now c.args.place c.args.next c.args.rows.now.items c.in_default.field-0.summary c.requires.finds (omega arith) c.in_default.ensures.0
