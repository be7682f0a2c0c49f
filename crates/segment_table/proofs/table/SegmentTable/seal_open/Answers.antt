use Rattle.std.proofs.Common.{sym}
use Rattle.segment_table.specs.Changes.{IsFilling}
use Rattle.segment_table.proofs.Ahead.{filling_at}
use Rattle.segment_table.proofs.table.SegmentTable.seal_open.Goals as goal

pub seal-requires-clause-used : goal.seal-requires-clause-used
seal-requires-clause-used c =
    let filling : IsFilling c.in-Some.frame c.self.inside.segments = sym c.in-Some.ensures in
    let at = filling_at c.self.inside.segments c.in-Some.frame filling in
    (c.self.invariant.1 c.in-Some.frame at.0 at.1).0
