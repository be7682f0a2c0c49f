use Rattle.std.proofs.Common.{refl}
use Rattle.history_report.specs.Flushes.{moments_hidden}
use Rattle.history_report.proofs.flushes.all_hidden.Goals as goal

pub returns : goal.returns
returns c = c.with_text.ensures (moments_hidden c.args.style c.args.row.now) _ c.moments_hidden-made.ensures refl
