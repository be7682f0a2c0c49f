use Rattle.std.proofs.Common.{◌≡◌}
use Rattle.drive.specs.Fields.{state_in, store_of}
use Rattle.history_export.proofs.Counts.{ReadTo}
use Rattle.history_export.proofs.checking.read_versions.Given as goal

-- the versions at the moments so far were read, and the drive's state and store are as they were
abbrev pub invariant-loop-moment : goal.invariant-loop-moment
invariant-loop-moment g l = record {
  state : state_in l.drive ≡ state_in l.fn.drive;
  store : store_of l.drive ≡ store_of l.fn.drive;
  read : ReadTo (state_in l.fn.drive) l.object l.moments l.moment-index l.fn.reading l.reading;
}
