use Rattle.std.proofs.Common.{◌∙◌, List, ap}
use Rattle.segment_table.specs.Used.{used_at}
use Rattle.image_salvage.specs.declared.unlisted.Unlisted.{Unlisted}
use Rattle.image_salvage.specs.Giving.{with_gone}
use Rattle.image_salvage.proofs.RowByRow.{gone_on, gone_all}
use Rattle.image_salvage.proofs.giving.unlisted_gone.Goals as goal

pub loop-unlisted-preserved : goal.loop-unlisted-preserved
loop-unlisted-preserved c =
    let used = used_at c.args.image.now.table in
    let objects = c.unlisted-objects.result.now in
    gone_on used objects c.loop-unlisted.unlisted-index c.unlisted-item.result c.loop-unlisted.gone c.gone.result c.saturating_add-gone.result (with_gone used objects 0) c.loop-unlisted-test.true c.unlisted-item.is
    c.loop-unlisted.invariant c.gone.ensures c.saturating_add-gone.ensures

pub returns : goal.returns
returns c =
    let used = used_at c.args.image.now.table in
    let objects = c.unlisted-objects.result.now in
    gone_all used objects c.loop-unlisted.unlisted-index c.loop-unlisted.gone (with_gone used objects 0) c.loop-unlisted-test.false c.loop-unlisted.invariant
    ∙ ap (λ (l : List Unlisted). with_gone used l 0) c.unlisted-objects.ensures
