-- As far as the loop has come, data blocks were counted.
use Rattle.std.proofs.Common.{◌≡◌, ◌≤◌, true}
use Rattle.segment_table.specs.Room.{sum_over}
use Rattle.drive_compaction.specs.Choosing.{is_life}
use Rattle.drive_compaction.specs.Holding.{data_at}
use Rattle.drive_compaction.proofs.holding.data_in.Given as goal

abbrev pub invariant-loop-index : goal.invariant-loop-index
invariant-loop-index g l =
    record {
      same : l.drive ≡ l.initial.drive;
      few : l.count ≤ l.index;
      life : 1 ≤ l.index → is_life l.generation ≡ true;
      counted : l.count ≡ sum_over (data_at l.initial.drive.store.table l.frame) 1 l.index;
    }
