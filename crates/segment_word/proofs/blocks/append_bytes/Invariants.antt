use Rattle.std.proofs.Common.{◌≡◌, ℕ, ◌+◌, ◌-◌, ◌≤◌, ◌++◌, length, take, drop}
use mathlib.Core.Option.{some}
use lib.ListN.{get_elem?}
use Rattle.segment_word.specs.Frames.{Pinned}
use Rattle.segment_word.specs.Layout.{block_bytes}
use Rattle.segment_word.specs.Steps.{IsSameSeat}
use Rattle.segment_word.proofs.blocks.append_bytes.Given as goal

abbrev pub invariant-loop-at : goal.invariant-loop-at
invariant-loop-at l = record {
  seat : IsSameSeat l.initial.seat l.seat;
  view : l.seat.me.0 ≡ l.initial.seat.me.0;
  low : l.from ≤ l.at;
  high : l.at ≤ l.to;
  added : length l.into.items ≡ length l.initial.into.items + (l.at - l.from);
  done : (i : ℕ) (p : Pinned) → get_elem? l.initial.seat.me.0.pins i ≡ some p → p.number ≡ l.frame → l.into.items ≡ l.initial.into.items ++ take (l.at - l.from) (drop l.from (block_bytes p.contents l.block));
}

abbrev pub decreases-loop-at : goal.decreases-loop-at
decreases-loop-at l = l.to - l.at
