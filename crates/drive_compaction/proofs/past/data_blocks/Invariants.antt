-- As far as the loop has come, pointers to data were counted.
use Rattle.std.proofs.Common.{◌≡◌, ◌≤◌, count_by, take}
use Rattle.std.specs.Prelude.{is_some}
use Rattle.drive_compaction.proofs.past.data_blocks.Given as goal

abbrev pub invariant-loop-pointer : goal.invariant-loop-pointer
invariant-loop-pointer l =
    record {
      few : l.count ≤ l.pointer-index;
      count : l.count ≡ count_by is_some (take l.pointer-index l.pointers);
    }
