use Rattle.std.proofs.Common.{◌≡◌, ◌≤◌, length, drop}
use Rattle.std.specs.Prelude.{reverse}
use Rattle.time_read.specs.Undoings.{put_back}
use Rattle.time_read.specs.private.EarlierPointers.{joined}
use Rattle.time_read.proofs.earlier_pointers.put_all_back.Given as goal

abbrev pub invariant-loop-place : goal.invariant-loop-place
invariant-loop-place l = record {
  high : l.place ≤ length l.indices;
  back : l.pointers ≡ put_back (reverse (drop l.place (joined l.indices l.befores))) l.initial.pointers;
}

abbrev pub decreases-loop-place : goal.decreases-loop-place
decreases-loop-place l = l.place
