use Rattle.std.proofs.Common.{inl, inr}
use Rattle.std.proofs.lemmas.Result.{err_from_is_err_and}
use Rattle.drive.specs.Fields.{state_in}
use Rattle.drive.proofs.drive.Drive.tell.Goals as goal

pub returns-in_err-check_question-clause-refused : goal.returns-in_err-check_question-clause-refused
returns-in_err-check_question-clause-refused g c =
    let p = err_from_is_err_and c.from_residual.result c.from_residual.ensures.1 in
    rw (p.1, p.2) (inl (inr (c.in_err-check_question.ensures.refused (state_in c.args.self.now))))
