use Rattle.std.proofs.Common.{List, ℕ, sym, subst}
use Rattle.std.proofs.lemmas.Result.{err_from_is_err_and}
use Rattle.s4_types.specs.Sizes.{ReplyFits}
use Rattle.s4_types.specs.declared.replies.Reply.TheVariants.{Data}
use Rattle.s4_types.specs.declared.requests.Question.TheVariants.{Read}
use Rattle.s4_types.specs.declared.requests.Request.TheVariants.{Query}
use Rattle.s4_model.specs.Refusals.{asked}
use Rattle.drive.specs.Fields.{state_in}
use Rattle.drive.specs.Later.{later_refusal}
use Rattle.drive.specs.Answering.{IsAnswered}
use Rattle.drive.proofs.Told.{bytes_answered, bytes_fit, read_refusal, untold_judged}
use Rattle.drive.proofs.drive.Drive.read.Goals as goal

pub returns-in_err-bytes-clause-refused : goal.returns-in_err-bytes-clause-refused
returns-in_err-bytes-clause-refused g c =
    let p = err_from_is_err_and c.from_residual.result c.from_residual.ensures.1 in
    rw (p.1, p.2) (untold_judged (Read c.args.object c.args.offset c.args.length c.args.at) c.args.self.now c.args.object (asked (state_in c.args.self.now) c.args.at) _
    (read_refusal (state_in c.args.self.now) c.args.object c.args.offset c.args.length c.args.at) c.in_err-bytes.ensures.refused)

pub returns-clause-fits : goal.returns-clause-fits
returns-clause-fits g c =
    subst (λ (bytes : List ℕ). ReplyFits (Data bytes)) (sym c.from_vec.ensures)
    (bytes_fit c.args.self.now c.args.object _ c.args.offset c.args.length _ c.in_ok-bytes.bytes.items c.requires c.in_ok-bytes.ensures.read)

pub returns-clause-ok : goal.returns-clause-ok
returns-clause-ok g c =
    subst (λ (bytes : List ℕ). IsAnswered (later_refusal (state_in c.args.self.now) (Query (Read c.args.object c.args.offset c.args.length c.args.at))) (state_in c.args.self.now) (Query (Read c.args.object c.args.offset c.args.length c.args.at)) (Data bytes)) (sym c.from_vec.ensures)
    (bytes_answered c.args.self.now _ c.args.object c.args.offset c.args.length c.args.at c.in_ok-bytes.bytes.items c.in_ok-bytes.ensures.store c.in_ok-bytes.ensures.free c.in_ok-bytes.ensures.read)
