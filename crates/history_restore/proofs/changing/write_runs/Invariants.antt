use Rattle.std.proofs.Common.{◌≡◌, ℕ, take, Ok}
use Rattle.s4_model.specs.Refusals.{present}
use Rattle.drive.specs.Fields.{state_in}
use Rattle.history_restore.specs.Asking.{AsksFor}
use Rattle.history_restore.specs.Content.{content_of}
use Rattle.history_restore.specs.Keeping.{LeavesOthers, LeavesPast}
use Rattle.history_restore.specs.Plans.{runs_by, runs_changes}
use Rattle.history_restore.proofs.changing.write_runs.Given as goal

abbrev pub invariant-loop-run : goal.invariant-loop-run
invariant-loop-run g l = record {
  content : content_of (present (state_in l.drive) l.object) ≡ content_of (runs_by l.bytes (take l.run-index l.runs) l.object 0 (present (state_in l.fn.drive) l.object));
  next : (state_in l.drive).next ≡ (state_in l.fn.drive).next;
  asked : AsksFor {T = ℕ} l.fn.drive l.now (runs_changes l.object l.bytes (take l.run-index l.runs)) (Ok 0) l.drive;
  others : LeavesOthers l.object (state_in l.fn.drive) (state_in l.drive);
  past : LeavesPast (state_in l.fn.drive) (state_in l.drive);
}
