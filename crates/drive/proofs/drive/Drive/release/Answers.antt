use Rattle.std.proofs.Common.{ℕ, List, refl, ap, subst}
use Rattle.std.specs.Prelude.{is_some}
use Rattle.object_map.specs.declared.map.Row.{Row}
use Rattle.object_map.specs.Rows.{row_of}
use Rattle.s4_model.specs.State.{state_of}
use Rattle.segment_table.specs.Room.{log_of}
use Rattle.version_store.specs.Store.{fields_of}
use Rattle.drive.specs.Fields.{DriveFields}
use Rattle.drive.specs.Upkeep.{Releases}
use Rattle.drive.proofs.Leading.{kept_alike}
use Rattle.drive.proofs.Upkept.{releases}
use Rattle.drive.proofs.drive.Drive.release.Goals as goal

pub invariant_of-self : goal.invariant_of-self
invariant_of-self g c = (
  c.self.invariant.0,
  kept_alike (state_of c.self.inside.history.history) (fields_of log_of c.self.inside.store) (fields_of log_of c.release.new.self) c.self.inside.window c.self.inside.next c.self.invariant.1
      c.release.ensures.store c.release.ensures.objects.versions c.release.ensures.objects.latest (λ o. ap (λ (rows : List (ℕ × Row)). is_some (row_of rows o)) c.release.ensures.objects.rows),
  c.self.invariant.2,
)

pub returns : goal.returns
returns g c =
    let before : DriveFields = record { ledger = c.self.inside.history; store = c.self.inside.store; audit = c.self.inside.audit.rows } in
    let later : DriveFields = record { ledger = c.self.inside.history; store = c.release.new.self; audit = c.self.inside.audit.rows } in
    let R : DriveFields → Type 0 = λ d. Releases c.args.frame d c.release.result later in
    subst R c.self.view_is (releases c.release.result c.args.frame before later c.release.ensures.frame c.release.ensures.objects refl refl)
