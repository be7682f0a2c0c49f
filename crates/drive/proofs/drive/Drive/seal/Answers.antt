use Rattle.std.proofs.Common.{ℕ, List, refl, ap, subst}
use Rattle.std.specs.Prelude.{is_some}
use Rattle.object_map.specs.declared.map.Row.{Row}
use Rattle.object_map.specs.Rows.{row_of}
use Rattle.s4_model.specs.State.{state_of}
use Rattle.segment_table.specs.Room.{log_of}
use Rattle.version_store.specs.Store.{fields_of}
use Rattle.drive.specs.Fields.{DriveFields}
use Rattle.drive.specs.Upkeep.{Seals}
use Rattle.drive.proofs.Leading.{kept_alike}
use Rattle.drive.proofs.drive.Drive.seal.Goals as goal

pub invariant_of-self : goal.invariant_of-self
invariant_of-self g c = (
  c.self.invariant.0,
  kept_alike (state_of c.self.inside.history.history) (fields_of log_of c.self.inside.store) (fields_of log_of c.seal.new.self) c.self.inside.window c.self.inside.next c.self.invariant.1
      c.seal.ensures.store c.seal.ensures.objects.versions c.seal.ensures.objects.latest (λ o. ap (λ (rows : List (ℕ × Row)). is_some (row_of rows o)) c.seal.ensures.objects.rows),
  c.self.invariant.2,
)

pub returns : goal.returns
returns g c =
    let later : DriveFields = record { ledger = c.self.inside.history; store = c.seal.new.self; audit = c.self.inside.audit.rows } in
    let S : DriveFields → Type 0 = λ d. Seals d later in
    subst S c.self.view_is (record { frame = c.seal.ensures.frame; objects = c.seal.ensures.objects; ledger = refl; audit = refl })
