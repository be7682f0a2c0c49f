use Rattle.std.proofs.Common.{subst}
use Rattle.s4d.specs.Piping.{Attended, Steps}
use Rattle.s4d.proofs.piping.OwnDriveBackend.request.Goals as goal

pub returns-clause-step : goal.returns-clause-step
returns-clause-step g c =
    let later : Attended = record { drive = c.request.new.self; session = c.request.new.session } in
    subst (λ (old : Attended). Steps old c.args.request c.args.now c.request.result later) c.self.view_is
    (record { step = c.request.ensures.step; refused = c.request.ensures.refused; stored = c.request.ensures.stored; session = c.request.ensures.session })
