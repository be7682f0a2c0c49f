-- As far as the loop has come, all is taken.
use Rattle.std.proofs.Common.{◌≡◌, ◌≤◌, true}
use Rattle.drive_compaction.specs.Choosing.{is_life}
use Rattle.drive_compaction.proofs.Taken.{taken_to}
use Rattle.drive_compaction.proofs.frames.are_all_taken.Given as goal

abbrev pub invariant-loop-index : goal.invariant-loop-index
invariant-loop-index g l =
    record {
      same : l.drive ≡ l.initial.drive;
      life : 1 ≤ l.index → is_life l.generation ≡ true;
      taken : taken_to l.initial.drive.store.table l.objects l.frame l.index ≡ true;
    }
