use Rattle.std.proofs.Common.{rules}
use Rattle.history_view.proofs.Sifted.{stat_is}
use Rattle.history_view.proofs.stats.stat_of.Goals as goal

pub returns-in-len2-up : goal.returns-in-len2-up
returns-in-len2-up c =
    stat_is c.args.object c.args.rows.now c.count_begun-changes.result c.kinds_in-kinds.result _ _ c.first-item.result c.last-item.result c.in-len2-up.len_at_least c.first-item.is c.last-item.is (search rules) (search rules) (search rules) (search rules)
