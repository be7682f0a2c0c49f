use Rattle.std.proofs.Common.{subst, ◌∙◌, ap}
use Rattle.segment_word.specs.FrameRule.{AllAgree}
use Rattle.segment_table.specs.declared.table.SegmentTable.TheInside.{Inside}
use Rattle.segment_table.specs.Table.{Table}
use Rattle.segment_table.proofs.table.SegmentTable.confirm.Goals as goal

pub returns-clause-agree : goal.returns-clause-agree
returns-clause-agree c =
    let A : Table → Type 0 = λ t. AllAgree t.seat.frames c.args.pin.now.pins in
    subst A (ap (λ (i : Inside). i.segments) c.self-inside.view_is ∙ c.self.view_is) c.confirm.ensures.agree
