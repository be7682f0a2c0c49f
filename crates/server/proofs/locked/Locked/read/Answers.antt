use Rattle.std.proofs.Common.{ap, subst}
use Rattle.s4_types.specs.declared.requests.Request.TheVariants.{Query}
use Rattle.s4_types.specs.declared.requests.Question.TheVariants.{Read}
use Rattle.server.specs.Accounts.{PartFields}
use Rattle.server.specs.Attending.{SeatFields, SeatAnswer}
use Rattle.server.proofs.Sharing.{answer_fetched, fetched_fits}
use Rattle.server.proofs.locked.Locked.read.Goals as goal

pub returns-clause-step : goal.returns-clause-step
returns-clause-step g c =
    let base = g.J.Naming.base in
    let reserve = g.J.Running.reserve in
    let moments = g.J.Running.moments in
    let planned = c.resolve-planned in
    let read = Query (Read c.args.object c.args.offset c.args.length c.args.at) in
    let new : SeatFields = record { session = planned.new.session; requests = planned.new.part.requests; clock = planned.new.place.clock } in
    subst (λ (old : SeatFields). SeatAnswer base reserve moments old read c.fetched.result new) c.self.view_is (record {
      answer = answer_fetched base reserve moments c.self.inside.part.requests c.self.inside.session planned.new.session c.args.object c.args.offset c.args.length c.args.at planned.result c.fetched.result planned.new.place.clock planned.ensures.step c.fetched.ensures;
      counted = ap (λ (p : PartFields). p.requests) planned.ensures.part;
    })

pub returns-clause-fits : goal.returns-clause-fits
returns-clause-fits g c = fetched_fits c.resolve-planned.result c.fetched.result c.resolve-planned.ensures.fits c.fetched.ensures
