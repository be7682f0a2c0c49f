use Rattle.s4_model.proofs.AuditLaws.{moment_cuts, change_adds, kept_goes_on}
use Rattle.s4_model.proofs.laws.the_audit_goes_on_row_by_row.Goals as goal

pub returns : goal.returns
returns c = record { moments = moment_cuts; changes = change_adds; kept = kept_goes_on }
