use Rattle.std.proofs.Common.{◌≡◌, ◌-◌, ◌^◌}
use Rattle.drive.specs.Fields.{state_in, store_of}
use Rattle.history_export.proofs.Counts.{CheckedTo}
use Rattle.history_export.proofs.checking.check_all.Given as goal

-- the objects so far are checked, and the drive's state and store are as they were
abbrev pub invariant-loop-object : goal.invariant-loop-object
invariant-loop-object g l = record {
  state : state_in l.drive ≡ state_in l.initial.drive;
  store : store_of l.drive ≡ store_of l.initial.drive;
  checked : CheckedTo (state_in l.initial.drive) (store_of l.initial.drive) l.last l.reading (g.P.Progress.told l.initial.progress) (g.P.Progress.told l.progress);
}

abbrev pub decreases-loop-object : goal.decreases-loop-object
decreases-loop-object g l = 2 ^ 64 - l.last
