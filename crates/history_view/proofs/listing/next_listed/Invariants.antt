use Rattle.std.proofs.Common.{◌≡◌, ◌≤◌, ◌-◌, ◌^◌}
use Rattle.drive.specs.Fields.{state_in, store_of}
use Rattle.history_view.proofs.Shown.{ArePassed}
use Rattle.history_view.proofs.listing.next_listed.Given as goal

-- the drive is as it was, and nothing is listed of the objects so far
abbrev pub invariant-loop-object : goal.invariant-loop-object
invariant-loop-object g l = record {
  from : l.fn.after ≤ l.last;
  ledger : l.drive.ledger ≡ l.initial.drive.ledger;
  store : store_of l.drive ≡ store_of l.initial.drive;
  passed : ArePassed (state_in l.initial.drive) (store_of l.initial.drive) l.deleted l.at l.fn.after l.last;
}

abbrev pub decreases-loop-object : goal.decreases-loop-object
decreases-loop-object g l = 2 ^ 64 - l.last
