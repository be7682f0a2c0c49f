use Rattle.std.proofs.Common.{refl}
use Rattle.s4_types.specs.declared.requests.Request.TheVariants.{Update, Control}
use Rattle.s4_model.specs.Refusals.{first_refusal}
use Rattle.version_store.specs.Costs.{short_of}
use Rattle.drive.specs.Fields.{state_in, store_of}
use Rattle.drive.proofs.Storing.{control_of_any}
use Rattle.drive.proofs.Served.{served_settled}
use Rattle.drive.proofs.drive.Drive.serve.Goals as goal

pub returns-in-Query : goal.returns-in-Query
returns-in-Query g c = rw c.in-Query.is (c.answer.ensures (short_of c.args.least (store_of c.args.self.now)))

pub returns-in-Update : goal.returns-in-Update
returns-in-Update g c =
    rw c.in-Update.is (served_settled (short_of c.args.least (store_of c.args.self.now)) c.args.self.now c.update-done.new.self c.settle.new.self c.args.session.now c.update-done.new.session c.settle.new.session (Update c.in-Update.update) c.args.now c.update-done.result c.settle.result
    refl c.update-done.ensures c.settle.ensures)

pub returns-in-Control : goal.returns-in-Control
returns-in-Control g c =
    rw c.in-Control.is (served_settled (short_of c.args.least (store_of c.args.self.now)) c.args.self.now c.control-done.new.self c.settle-in-Control.new.self c.args.session.now c.control-done.new.session c.settle-in-Control.new.session (Control c.in-Control.control) c.args.now c.control-done.result c.settle-in-Control.result
    refl (control_of_any (short_of c.args.least (store_of c.args.self.now)) (store_of c.args.self.now) (first_refusal (state_in c.args.self.now) c.args.session.now.role (Control c.in-Control.control)) c.args.self.now c.control-done.new.self c.args.session.now c.control-done.new.session c.in-Control.control c.args.now c.control-done.result c.control-done.ensures) c.settle-in-Control.ensures)
