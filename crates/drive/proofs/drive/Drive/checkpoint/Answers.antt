use Rattle.std.proofs.Common.{refl, subst}
use Rattle.s4_model.specs.State.{state_of}
use Rattle.segment_table.specs.Room.{log_of}
use Rattle.version_store.specs.Store.{fields_of}
use Rattle.drive.specs.Fields.{DriveFields}
use Rattle.drive.specs.Upkeep.{WritesCheckpoint}
use Rattle.drive.proofs.Leading.{kept_alike}
use Rattle.drive.proofs.drive.Drive.checkpoint.Goals as goal

pub invariant_of-self : goal.invariant_of-self
invariant_of-self g c = (
  c.self.invariant.0,
  kept_alike (state_of c.self.inside.history.history) (fields_of log_of c.self.inside.store) (fields_of log_of c.checkpoint.new.self) c.self.inside.window c.self.inside.next c.self.invariant.1
      c.checkpoint.ensures.store c.checkpoint.ensures.versions c.checkpoint.ensures.latest c.checkpoint.ensures.rows,
  c.self.invariant.2,
)

pub returns : goal.returns
returns g c =
    let done = c.checkpoint.ensures in
    let later : DriveFields = record { ledger = c.self.inside.history; store = c.checkpoint.new.self; audit = c.self.inside.audit.rows } in
    let W : DriveFields → Type 0 = λ d. WritesCheckpoint c.args.object d c.checkpoint.result later in
    subst W c.self.view_is (record {
      checkpoint = done.checkpoint;
      current = done.current;
      answer = done.answer;
      unchanged = done.unchanged;
      ledger = refl;
      audit = refl;
      versions = done.versions;
      inodes = done.inodes;
    })
