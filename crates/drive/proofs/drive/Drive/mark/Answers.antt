use Rattle.std.proofs.Common.{refl, sym, subst}
use Rattle.s4_model.specs.State.{state_of}
use Rattle.version_store.specs.Store.{StoreFields}
use Rattle.drive.specs.Fields.{DriveFields}
use Rattle.drive.specs.Keeping.{IsKeptDrive}
use Rattle.drive.specs.Upkeep.{Marks}
use Rattle.drive.proofs.Upkept.{marks}
use Rattle.drive.proofs.drive.Drive.mark.Goals as goal

pub invariant_of-self : goal.invariant_of-self
invariant_of-self g c = (
  c.self.invariant.0,
  subst (λ (s : StoreFields). IsKeptDrive (state_of c.self.inside.history.history) s c.self.inside.window c.self.inside.next) (sym c.mark.ensures.same) c.self.invariant.1,
  c.self.invariant.2,
)

pub returns : goal.returns
returns g c =
    let before : DriveFields = record { ledger = c.self.inside.history; store = c.self.inside.store; audit = c.self.inside.audit.rows } in
    let later : DriveFields = record { ledger = c.self.inside.history; store = c.mark.new.self; audit = c.self.inside.audit.rows } in
    let M : DriveFields → Type 0 = λ d. Marks c.args.frame d c.mark.result later in
    subst M c.self.view_is (marks c.mark.result c.args.frame before later c.mark.ensures.frame c.mark.ensures.refused c.mark.ensures.same refl refl)
