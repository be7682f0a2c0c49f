use Rattle.std.proofs.Common.{◌≡◌, ℕ, IsSome, sym, subst}
use Rattle.s4_model.specs.State.{State, state_of}
use Rattle.inode.specs.Contents.{contents_of, meaning}
use Rattle.object_map.specs.Rows.{row_of}
use Rattle.segment_table.specs.Room.{log_of}
use Rattle.version_store.specs.Store.{StoreFields, fields_of}
use Rattle.version_store.specs.Versions.{version_in}
use Rattle.version_store.specs.Replacing.{inode_led}
use Rattle.drive.specs.Fields.{DriveFields, state_in, store_of}
use Rattle.drive.specs.Keeping.{IsNeeded, KeepsVersions}
use Rattle.drive.proofs.Leading.{LeadsOn, kept_on, replaced_leads}
use Rattle.drive.proofs.drive.Drive.replace.Given.{Over}
use Rattle.drive.proofs.drive.Drive.replace.Goals.{After-replace}
use Rattle.drive.proofs.drive.Drive.replace.Goals as goal

-- what is shown goes on
leads : (g : Over) (c : After-replace g) → LeadsOn (state_of c.self.inside.history.history) (fields_of log_of c.self.inside.store) (fields_of log_of c.replace.new.self)
leads g c =
    let s : State = state_of c.self.inside.history.history in
    let store : StoreFields = fields_of log_of c.self.inside.store in
    let some : IsSome (row_of store.rows c.args.object) = subst (λ (d : DriveFields). IsSome (row_of d.store.rows c.args.object)) (sym c.self.view_is) c.requires.some in
    let stays : (t : ℕ) → IsNeeded s c.args.object t → meaning (contents_of store.log.held) (inode_led c.args.present.now c.args.entries.now t) ≡ version_in store c.args.object t =
    subst (λ (d : DriveFields). (t : ℕ) → IsNeeded (state_in d) c.args.object t → meaning (contents_of (store_of d).log.held) (inode_led c.args.present.now c.args.entries.now t) ≡ version_in (store_of d) c.args.object t) (sym c.self.view_is) c.requires.stays in
    replaced_leads c.replace.result s store (fields_of log_of c.replace.new.self) c.args.object c.args.present.now c.args.entries.now some c.replace.ensures.replaced c.replace.ensures.versions c.replace.ensures.unchanged stays

pub invariant_of-self : goal.invariant_of-self
invariant_of-self g c =
    let on = leads g (goal.at.invariant_of-self g c).After-replace in
    (c.self.invariant.0, kept_on (state_of c.self.inside.history.history) (fields_of log_of c.self.inside.store) (fields_of log_of c.replace.new.self) c.self.inside.window c.self.inside.next c.self.invariant.1 c.replace.ensures.store on, c.self.invariant.2)

pub returns-clause-needed : goal.returns-clause-needed
returns-clause-needed g c =
    subst (λ (d : DriveFields). KeepsVersions (state_in d) (store_of d) (fields_of log_of c.replace.new.self)) c.self.view_is (leads g (goal.at.returns-clause-needed g c).After-replace).versions
