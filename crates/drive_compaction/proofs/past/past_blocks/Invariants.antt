-- As far as the loop has come, what the objects need was taken off.
use Rattle.std.proofs.Common.{◌≡◌, ◌+◌, ◌-◌, ◌^◌}
use Rattle.segment_table.specs.Room.{sum_over}
use Rattle.drive.specs.Fields.{state_in, store_of}
use Rattle.drive_compaction.specs.Past.{present_blocks, held_blocks}
use Rattle.drive_compaction.proofs.past.past_blocks.Given as goal

abbrev pub invariant-loop-next : goal.invariant-loop-next
invariant-loop-next g l =
    record {
      store : store_of l.drive ≡ store_of l.fn.drive;
      ledger : l.drive.ledger ≡ l.fn.drive.ledger;
      left : l.past ≡ held_blocks l.fn.drive.store.table - sum_over (present_blocks (store_of l.fn.drive) (state_in l.fn.drive).clock) 0 (l.object + 1);
    }

abbrev pub decreases-loop-next : goal.decreases-loop-next
decreases-loop-next g l = 2 ^ 64 - l.object
