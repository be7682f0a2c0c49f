use Rattle.std.proofs.Common.{◌∙◌, sym, eqb-true}
use Rattle.restore_search.proofs.Knowing.{full_one, one_at}
use Rattle.restore_search.proofs.turning.is_full.Goals as goal

pub returns-in-Journal : goal.returns-in-Journal
returns-in-Journal c _ =
    full_one c.args.refused.now c.one-item.result c.args.object
    (one_at c.args.refused.now c.loop-one.one-index c.one-item.result c.loop-one-test.true c.one-item.is)
    (eqb-true c.one-item.result.object c.args.object (sym c.eq.ensures ∙ c.if-eq.true))
    c.in-Journal.is
