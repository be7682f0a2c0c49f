use Rattle.std.proofs.Common.{subst, ◌∙◌, ap}
use Rattle.segment_word.specs.FrameRule.{AllRemembered}
use Rattle.segment_table.specs.declared.table.SegmentTable.TheInside.{Inside}
use Rattle.segment_table.specs.Table.{Table}
use Rattle.segment_table.proofs.table.SegmentTableOverFrames.recall.Goals as goal

pub returns-clause-remembered : goal.returns-clause-remembered
returns-clause-remembered c =
    let A : Table → Type 0 = λ t. AllRemembered t.seat.frames c.args.memory.now.remembered in
    subst A (ap (λ (i : Inside). i.segments) c.self-inside.view_is ∙ c.self.view_is) c.recall.ensures.remembered
