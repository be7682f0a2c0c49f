use Rattle.std.proofs.Common.{◌≡◌, ◌≤◌, ◌-◌, ◌^◌}
use Rattle.drive.specs.Fields.{state_in, store_of}
use Rattle.history_diff.proofs.Rows.{ArePassed}
use Rattle.history_diff.proofs.differing.next_differing.Given as goal

-- the drive is as it was, and the objects so far are passed
abbrev pub invariant-loop-object : goal.invariant-loop-object
invariant-loop-object g l = record {
  beyond : l.fn.above ≤ l.last;
  state : state_in l.drive ≡ state_in l.initial.drive;
  store : store_of l.drive ≡ store_of l.initial.drive;
  passed : ArePassed (state_in l.initial.drive) l.before l.after l.fn.above l.last;
}

abbrev pub decreases-loop-object : goal.decreases-loop-object
decreases-loop-object g l = 2 ^ 64 - l.last
