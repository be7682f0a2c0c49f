use Rattle.std.proofs.Common.{◌≡◌, ◌≤◌, ◌-◌, ◌^◌}
use Rattle.drive.specs.Fields.{state_in, store_of}
use Rattle.history_view.proofs.Named.{NoneNamed}
use Rattle.history_view.proofs.names.next_named.Given as goal

-- the drive is as it was, and none of the objects so far has the name
abbrev pub invariant-loop-row : goal.invariant-loop-row
invariant-loop-row g l = record {
  from : l.fn.after ≤ l.last;
  ledger : l.drive.ledger ≡ l.initial.drive.ledger;
  store : store_of l.drive ≡ store_of l.initial.drive;
  none : NoneNamed (state_in l.initial.drive) (store_of l.initial.drive) l.name l.at l.fn.after l.last;
}

abbrev pub decreases-loop-row : goal.decreases-loop-row
decreases-loop-row g l = 2 ^ 64 - l.last
