-- All objects up to this one were counted.
use Rattle.std.proofs.Common.{◌≡◌, ◌^◌, ◌-◌}
use Rattle.drive.specs.Fields.{store_of}
use Rattle.drive_compaction.proofs.Counted.{CountsUpTo}
use Rattle.drive_compaction.proofs.counts.count_rows.Given as goal

abbrev pub invariant-loop-next : goal.invariant-loop-next
invariant-loop-next g l =
    record {
      store : store_of l.drive ≡ store_of l.fn.drive;
      ledger : l.drive.ledger ≡ l.fn.drive.ledger;
      counted : CountsUpTo (store_of l.fn.drive) l.counted l.object;
    }

abbrev pub decreases-loop-next : goal.decreases-loop-next
decreases-loop-next g l = 2 ^ 64 - l.object
