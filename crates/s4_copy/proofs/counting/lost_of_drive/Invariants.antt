use Rattle.std.proofs.Common.{◌≡◌, take}
use Rattle.std.specs.List.{sum_by}
use Rattle.drive.specs.Fields.{state_in, store_of}
use Rattle.history_export.specs.Checks.{capped}
use Rattle.s4_copy.specs.Counting.{versions_lost}
use Rattle.s4_copy.proofs.counting.lost_of_drive.Given as goal

-- the versions of the objects so far, and the drive is as it was
abbrev pub invariant-loop-object : goal.invariant-loop-object
invariant-loop-object g l = record {
  ledger : l.drive.ledger ≡ l.initial.drive.ledger;
  store : store_of l.drive ≡ store_of l.initial.drive;
  lost : l.lost ≡ capped (sum_by (versions_lost l.wanted (state_in l.initial.drive) (store_of l.initial.drive)) (take l.object-index l.object-items));
}
