use Rattle.std.proofs.Common.{◌≡◌, refl, sym, ap, subst, ◌∙◌}
use Rattle.s4_types.specs.History.{Base}
use Rattle.s4_model.specs.State.{state_of}
use Rattle.segment_word.specs.AcceptViews.{Ledger, begun}
use Rattle.segment_table.specs.Table.{Table}
use Rattle.segment_table.specs.Room.{log_of}
use Rattle.version_store.specs.Store.{StoreOf, fields_of}
use Rattle.drive.specs.Keeping.{IsKeptDrive}
use Rattle.drive.specs.Opened.{OpenedFields, base_of}
use Rattle.drive.proofs.Auditing.{base_kept}
use Rattle.drive.proofs.opened_drive.OpenedDrive.named.Goals as goal

-- the named drive begins with what its parts come to, and with their rows
pub invariant_of-result : goal.invariant_of-result
invariant_of-result g c =
    let base : Base = base_of (fields_of log_of c.self.inside.store) c.self.inside.window c.self.inside.next c.self.inside.audit.rows in
    let named : base ≡ g.J.Naming.base = ap (λ (d : OpenedFields). base_of (fields_of log_of d.store) d.timeline d.next d.audit) c.self.view_is ∙ c.requires.base in
    let same : c.named-sessions.result.1 ≡ begun base = c.named-sessions.ensures ∙ ap begun (sym named) in (
      ap (λ (l : Ledger). l.history.base) c.named-sessions.ensures,
      subst (λ (l : Ledger). IsKeptDrive (state_of l.history) (fields_of log_of c.named.result) c.self.inside.window c.self.inside.next) (sym same)
          (subst (λ (store : StoreOf Table). IsKeptDrive (state_of (begun base).history) (fields_of log_of store) c.self.inside.window c.self.inside.next) (sym c.named.ensures.same) c.self.invariant.0),
      base_kept c.named-sessions.result.1 base g.J.Naming.base c.self.inside.audit.rows c.named-sessions.ensures named refl c.self.invariant.1,
    )
