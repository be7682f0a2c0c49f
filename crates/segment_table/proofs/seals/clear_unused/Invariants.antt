use Rattle.std.proofs.Common.{◌+◌}
use Rattle.segment_table.specs.Changes.{IsCleared}
use Rattle.segment_table.proofs.seals.clear_unused.Given as goal

abbrev pub invariant-loop-block : goal.invariant-loop-block
invariant-loop-block l = IsCleared l.frame (l.used + 1) l.block l.initial.seat l.seat
