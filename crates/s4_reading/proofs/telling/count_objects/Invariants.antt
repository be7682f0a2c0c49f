use Rattle.std.proofs.Common.{◌≡◌, ◌-◌, ◌≤◌, ◌^◌}
use Rattle.drive.specs.Fields.{state_in, store_of}
use Rattle.s4_reading.proofs.Rows.{CountedTo}
use Rattle.s4_reading.proofs.telling.count_objects.Given as goal

-- the objects so far are counted, and the drive is as it was
abbrev pub invariant-loop-row : goal.invariant-loop-row
invariant-loop-row g l = record {
  ledger : l.drive.ledger ≡ l.initial.drive.ledger;
  store : store_of l.drive ≡ store_of l.initial.drive;
  few : l.all ≤ l.last;
  among : l.live ≤ l.all;
  counted : CountedTo (state_in l.initial.drive) (store_of l.initial.drive) l.last l.live l.all;
}

abbrev pub decreases-loop-row : goal.decreases-loop-row
decreases-loop-row g l = 2 ^ 64 - l.last
