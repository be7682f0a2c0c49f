use Rattle.std.proofs.Common.{◌≡◌, List, sym, ap, subst, ◌∙◌}
use Rattle.s4_types.specs.declared.audit_rows.AuditRow.{AuditRow}
use Rattle.s4_model.specs.Audit.{audit_of, KeepsAudit}
use Rattle.s4_model.specs.State.{State, state_of}
use Rattle.drive.specs.Fields.{DriveFields, state_in}
use Rattle.drive.proofs.Auditing.{cut_rows}
use Rattle.drive.proofs.drive.Drive.cut_audit.Goals as goal

pub invariant_of-self : goal.invariant_of-self
invariant_of-self g c =
    let s : State = state_of c.self.inside.history.history in
    let cut : c.cut.new.self.rows ≡ audit_of s = cut_rows s c.self.inside.audit.rows c.cut.new.self.rows c.floor.result c.self.invariant.2 (c.floor.ensures ∙ c.self.invariant.1.window.floor) c.cut.ensures in (
      c.self.invariant.0,
      c.self.invariant.1,
      subst (λ (rows : List AuditRow). KeepsAudit s rows) (sym cut) (c.the_audit_goes_on_row_by_row.ensures.kept s c.self.inside.audit.rows c.self.invariant.2).cut,
    )

pub returns : goal.returns
returns g c =
    let s : State = state_of c.self.inside.history.history in
    let cut : c.cut.new.self.rows ≡ audit_of s = cut_rows s c.self.inside.audit.rows c.cut.new.self.rows c.floor.result c.self.invariant.2 (c.floor.ensures ∙ c.self.invariant.1.window.floor) c.cut.ensures in
    ap (λ (rows : List AuditRow). record { ledger = c.self.inside.history; store = c.self.inside.store; audit = rows }) cut
    ∙ ap (λ (d : DriveFields). record d { audit = audit_of (state_in d) }) c.self.view_is
