use Rattle.server.proofs.Summing.{all_changes, run_moments}
use Rattle.server.proofs.laws.a_run_is_what_was_asked.Goals as goal

pub returns-clause-changes : goal.returns-clause-changes
returns-clause-changes c = let law = c.histories_go_on_record_by_record.ensures in λ first last events made. all_changes law.by_moments law.by_changes first last events made

pub returns-clause-clock : goal.returns-clause-clock
returns-clause-clock c = let law = c.histories_go_on_record_by_record.ensures in run_moments law.by_moments law.by_changes
