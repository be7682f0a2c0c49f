use Rattle.std.proofs.Common.{◌≡◌, ap, ◌∙◌}
use Rattle.s4_types.specs.declared.requests.Request.TheVariants.{Query}
use Rattle.segment_table.specs.Table.{Table}
use Rattle.segment_table.specs.Room.{log_of}
use Rattle.version_store.specs.Store.{StoreOf, fields_of}
use Rattle.drive.specs.Fields.{SessionFields}
use Rattle.drive.specs.Answering.{Sees}
use Rattle.drive.proofs.Served.{served_read}
use Rattle.drive.proofs.drive.Drive.answer.Goals as goal

pub returns : goal.returns
returns g c =
    let same : c.session.inside.role ≡ c.args.session.now.role = ap (λ (x : SessionFields). x.role) (c.session.view_is ∙ c.see.ensures.session) in
    let sees : Sees c.args.self.now c.see.new.self c.args.session.now c.see.new.session c.args.now = (c.see.ensures.ledger, ap (λ (x : StoreOf Table). fields_of log_of x) c.see.ensures.store, c.see.ensures.session, c.see.ensures.before, c.see.ensures.after) in
    λ scarce. served_read scarce c.args.self.now c.see.new.self c.tell.new.self c.args.session.now c.see.new.session c.session.inside.role (Query c.args.question) c.args.now c.tell.result c.reply_of.result tt
    sees c.tell.ensures.ledger c.tell.ensures.store same c.tell.ensures.ok c.tell.ensures.fits c.tell.ensures.refused c.reply_of.ensures
