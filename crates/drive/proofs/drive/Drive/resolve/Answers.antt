use Rattle.std.proofs.Common.{◌≡◌, ◌∙◌, ℕ, ap}
use Rattle.std.specs.Prelude.{Option, Result, Ok, Err, IfOk}
use Rattle.atomic_table.specs.Seated.{TableId}
use Rattle.s4_types.specs.declared.refusals.Refusal.{Refusal}
use Rattle.s4_types.specs.declared.requests.Request.TheVariants.{Query}
use Rattle.s4_types.specs.declared.requests.Question.TheVariants.{Read}
use Rattle.s4_model.specs.Step.{judged}
use Rattle.segment_table.specs.Table.{Table}
use Rattle.segment_table.specs.Room.{log_of}
use Rattle.version_store.specs.Store.{StoreOf, fields_of}
use Rattle.time_read.specs.Plans.{PlanFields}
use Rattle.drive.specs.Fields.{DriveFields, history_of, store_of}
use Rattle.drive.specs.Answering.{IsPlanOf, IsPinOf, reply_planned}
use Rattle.drive.specs.Answering.{Sees}
use Rattle.drive.proofs.Served.{lacked, served_planned}
use Rattle.drive.proofs.drive.Drive.resolve.Goals as goal

pub returns-clause-step : goal.returns-clause-step
returns-clause-step g c =
    let sees : Sees c.args.self.now c.see.new.self c.args.session.now c.see.new.session c.args.now = (c.see.ensures.ledger, ap (λ (x : StoreOf Table). fields_of log_of x) c.see.ensures.store, c.see.ensures.session, c.see.ensures.before, c.see.ensures.after) in
    (served_planned (store_of c.args.self.now) c.args.self.now c.see.new.self c.plan_read-planned.new.self c.args.session.now c.see.new.session (Query (Read c.args.object c.args.offset c.args.length c.args.at)) c.args.now c.plan_read-planned.result tt
    sees c.plan_read-planned.ensures.ledger c.plan_read-planned.ensures.store c.plan_read-planned.ensures.free c.plan_read-planned.ensures.bytes c.plan_read-planned.ensures.fits c.plan_read-planned.ensures.refused).step

pub returns-clause-refused : goal.returns-clause-refused
returns-clause-refused g c =
    let sees : Sees c.args.self.now c.see.new.self c.args.session.now c.see.new.session c.args.now = (c.see.ensures.ledger, ap (λ (x : StoreOf Table). fields_of log_of x) c.see.ensures.store, c.see.ensures.session, c.see.ensures.before, c.see.ensures.after) in
    (served_planned (store_of c.args.self.now) c.args.self.now c.see.new.self c.plan_read-planned.new.self c.args.session.now c.see.new.session (Query (Read c.args.object c.args.offset c.args.length c.args.at)) c.args.now c.plan_read-planned.result tt
    sees c.plan_read-planned.ensures.ledger c.plan_read-planned.ensures.store c.plan_read-planned.ensures.free c.plan_read-planned.ensures.bytes c.plan_read-planned.ensures.fits c.plan_read-planned.ensures.refused).refused

pub returns-clause-memory : goal.returns-clause-memory
returns-clause-memory g c =
    let sees : Sees c.args.self.now c.see.new.self c.args.session.now c.see.new.session c.args.now = (c.see.ensures.ledger, ap (λ (x : StoreOf Table). fields_of log_of x) c.see.ensures.store, c.see.ensures.session, c.see.ensures.before, c.see.ensures.after) in
    lacked (store_of c.args.self.now) (judged (history_of c.args.self.now) (Query (Read c.args.object c.args.offset c.args.length c.args.at)) c.args.now) c.args.session.now.role c.plan_read-planned.new.self (Query (Read c.args.object c.args.offset c.args.length c.args.at)) c.args.now (reply_planned c.plan_read-planned.result)
    (served_planned (store_of c.args.self.now) c.args.self.now c.see.new.self c.plan_read-planned.new.self c.args.session.now c.see.new.session (Query (Read c.args.object c.args.offset c.args.length c.args.at)) c.args.now c.plan_read-planned.result tt
    sees c.plan_read-planned.ensures.ledger c.plan_read-planned.ensures.store c.plan_read-planned.ensures.free c.plan_read-planned.ensures.bytes c.plan_read-planned.ensures.fits c.plan_read-planned.ensures.refused).refused

pub returns-clause-fits : goal.returns-clause-fits
returns-clause-fits g c =
    let sees : Sees c.args.self.now c.see.new.self c.args.session.now c.see.new.session c.args.now = (c.see.ensures.ledger, ap (λ (x : StoreOf Table). fields_of log_of x) c.see.ensures.store, c.see.ensures.session, c.see.ensures.before, c.see.ensures.after) in
    (served_planned (store_of c.args.self.now) c.args.self.now c.see.new.self c.plan_read-planned.new.self c.args.session.now c.see.new.session (Query (Read c.args.object c.args.offset c.args.length c.args.at)) c.args.now c.plan_read-planned.result tt
    sees c.plan_read-planned.ensures.ledger c.plan_read-planned.ensures.store c.plan_read-planned.ensures.free c.plan_read-planned.ensures.bytes c.plan_read-planned.ensures.fits c.plan_read-planned.ensures.refused).fits

pinned_here : (r : Result PlanFields Refusal) (d : DriveFields) (frames : TableId) (object offset len : ℕ) (at : Option ℕ) → IfOk r (IsPlanOf d object offset len at) → d.store.table.seat.table ≡ frames
    → IfOk r (λ plan. IsPinOf frames plan.pin)
pinned_here (Ok plan) d frames object offset len at is same = λ held e. is.here held e ∙ same
pinned_here (Err e) d frames object offset len at is same = tt

pub returns-clause-named : goal.returns-clause-named
returns-clause-named g c = pinned_here c.plan_read-planned.result c.plan_read-planned.new.self g.J.Naming.frames c.args.object c.args.offset c.args.length c.args.at c.plan_read-planned.ensures.plan c.rules.ensures.frames.table
