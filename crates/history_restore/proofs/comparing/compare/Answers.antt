use Rattle.std.proofs.lemmas.Result.{err_from_is_err_and}
use Rattle.drive.specs.Fields.{state_in}
use Rattle.history_restore.proofs.Readable.{unread_at}
use Rattle.history_restore.proofs.comparing.compare.Goals as goal

pub returns-in_err-latest-clause-refused : goal.returns-in_err-latest-clause-refused
returns-in_err-latest-clause-refused g c =
    let p = err_from_is_err_and c.from_residual-in_err-latest.result c.from_residual-in_err-latest.ensures.1 in
    rw (p.1, p.2) (unread_at (state_in c.args.drive.now) (state_in c.version_at.new.drive) c.args.aim.now.object c.args.aim.now.target c.args.at c.clock-clock.result _ c.clock-clock.ensures c.version_at.ensures.state c.rules.ensures.sound c.in_err-latest.ensures.refused)
