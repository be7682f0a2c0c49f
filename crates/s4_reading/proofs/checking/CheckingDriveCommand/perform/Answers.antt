use Rattle.std.proofs.Common.{refl}
use Rattle.s4_reading.proofs.Checked.{same_checks}
use Rattle.s4_reading.proofs.checking.CheckingDriveCommand.perform.Goals as goal

-- whoever was told of the objects besides, the output has the counts
pub returns-clause-shows : goal.returns-clause-shows
returns-clause-shows g c =
    let all = same_checks _ _ _ _ _ c.session.ensures.same c.in_ok-report.ensures.checked in
    (refl, record { report = c.in_ok-report.report; all = all; wrote = c.in_ok-write_report.ensures.text })
