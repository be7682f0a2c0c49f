use Rattle.std.proofs.Common.{◌≡◌, take}
use Rattle.std.specs.List.{flat_map}
use Rattle.drive.specs.Fields.{state_in, store_of}
use Rattle.history_aging.specs.Ends.{ends_of}
use Rattle.history_aging.proofs.ends.ends_in.Given as goal

-- the versions of the objects so far, and the drive is as it was
abbrev pub invariant-loop-object : goal.invariant-loop-object
invariant-loop-object g l = record {
  ledger : l.drive.ledger ≡ l.initial.drive.ledger;
  store : store_of l.drive ≡ store_of l.initial.drive;
  ends : l.ends.items ≡ flat_map (ends_of (state_in l.initial.drive) (store_of l.initial.drive)) (take l.object-index l.objects);
}
