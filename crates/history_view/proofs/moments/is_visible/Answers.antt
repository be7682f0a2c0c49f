use Rattle.drive.specs.Fields.{state_in}
use Rattle.history_view.proofs.Shown.{is_visible_by}
use Rattle.history_view.proofs.moments.is_visible.Goals as goal

pub returns : goal.returns
returns g c = is_visible_by c.sees.result (state_in c.args.drive.now) c.args.object c.args.at c.sees.ensures
