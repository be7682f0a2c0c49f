use Rattle.std.proofs.Common.{◌≡◌, ℕ, sym, subst}
use Rattle.s4_types.specs.declared.versions.Version.TheVariants.{Absent}
use Rattle.s4_model.specs.State.{State, state_of}
use Rattle.segment_table.specs.Room.{log_of}
use Rattle.version_store.specs.Store.{StoreFields, fields_of}
use Rattle.version_store.specs.Versions.{version_in}
use Rattle.drive.specs.Fields.{DriveFields, state_in, store_of}
use Rattle.drive.specs.Keeping.{IsNeeded, KeepsVersions}
use Rattle.drive.proofs.Leading.{LeadsOn, kept_on, removed_leads}
use Rattle.drive.proofs.drive.Drive.remove.Given.{Over}
use Rattle.drive.proofs.drive.Drive.remove.Goals.{After-remove}
use Rattle.drive.proofs.drive.Drive.remove.Goals as goal

-- what is shown goes on
leads : (g : Over) (c : After-remove g) → LeadsOn (state_of c.self.inside.history.history) (fields_of log_of c.self.inside.store) (fields_of log_of c.remove.new.self)
leads g c =
    let s : State = state_of c.self.inside.history.history in
    let store : StoreFields = fields_of log_of c.self.inside.store in
    let gone : (t : ℕ) → IsNeeded s c.args.object t → version_in store c.args.object t ≡ Absent =
    subst (λ (d : DriveFields). (t : ℕ) → IsNeeded (state_in d) c.args.object t → version_in (store_of d) c.args.object t ≡ Absent) (sym c.self.view_is) c.requires.gone in
    removed_leads c.remove.result s store (fields_of log_of c.remove.new.self) c.args.object c.remove.ensures.removed c.remove.ensures.versions c.remove.ensures.unchanged gone

pub invariant_of-self : goal.invariant_of-self
invariant_of-self g c =
    let on = leads g (goal.at.invariant_of-self g c).After-remove in
    (c.self.invariant.0, kept_on (state_of c.self.inside.history.history) (fields_of log_of c.self.inside.store) (fields_of log_of c.remove.new.self) c.self.inside.window c.self.inside.next c.self.invariant.1 c.remove.ensures.store on, c.self.invariant.2)

pub returns-clause-needed : goal.returns-clause-needed
returns-clause-needed g c =
    subst (λ (d : DriveFields). KeepsVersions (state_in d) (store_of d) (fields_of log_of c.remove.new.self)) c.self.view_is (leads g (goal.at.returns-clause-needed g c).After-remove).versions
