use Rattle.std.proofs.Common.{refl}
use Rattle.s4_types.specs.declared.requests.Request.TheVariants.{Query, Update, Control}
use Rattle.s4_model.proofs.StepLemmas.{Responds-asked, Responds-made, takeable}
use Rattle.s4_model.proofs.plain.PlainDrive.respond.Goals as goal

pub returns-in-Query : goal.returns-in-Query
returns-in-Query c =
    Responds-asked c.args.self.now c.args.role c.args.request (Query c.in-Query.question) c.args.now c.answer.result c.reply_of.result c.observe.new.self
    c.in-Query.is refl c.observe.ensures c.answer.ensures.answer c.reply_of.ensures c.answer.ensures.fits

pub returns-in-Update : goal.returns-in-Update
returns-in-Update c =
    Responds-made c.args.self.now c.args.role c.args.request (Update c.in-Update.update) c.args.now c.judge_update-judged.result c.settle.result c.settle.new.self
    c.in-Update.is refl (c.judge_update-judged.ensures c.args.role) c.settle.ensures

pub returns-in-Control : goal.returns-in-Control
returns-in-Control c =
    Responds-made c.args.self.now c.args.role c.args.request (Control c.in-Control.control) c.args.now c.judge_control-judged.result c.settle-in-Control.result c.settle-in-Control.new.self
    c.in-Control.is refl c.judge_control-judged.ensures c.settle-in-Control.ensures

pub settle-requires : goal.settle-requires
settle-requires c = takeable c.args.self.now c.args.role (Update c.in-Update.update) c.judge_update-judged.result (c.judge_update-judged.ensures c.args.role)
