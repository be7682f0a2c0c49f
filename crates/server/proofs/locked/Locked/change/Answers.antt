use Rattle.std.proofs.Common.{ap, subst}
use Rattle.server.specs.Accounts.{PartFields}
use Rattle.server.specs.Attending.{SeatFields, SeatAnswer}
use Rattle.server.proofs.locked.Locked.change.Goals as goal

pub returns-clause-step : goal.returns-clause-step
returns-clause-step g c =
    let base = g.J.Naming.base in
    let reserve = g.J.Running.reserve in
    let moments = g.J.Running.moments in
    let new : SeatFields = record { session = c.ask.new.session; requests = c.ask.new.part.requests; clock = c.ask.new.place.clock } in
    subst (λ (old : SeatFields). SeatAnswer base reserve moments old c.args.request c.ask.result new) c.self.view_is (record {
      answer = c.ask.ensures.step;
      counted = ap (λ (p : PartFields). p.requests) c.ask.ensures.part;
    })
