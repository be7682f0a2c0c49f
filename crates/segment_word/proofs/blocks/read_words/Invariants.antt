use Rattle.std.proofs.Common.{◌≡◌, ℕ, ◌+◌, ◌*◌, ◌<◌, length, slice_index}
use mathlib.Core.Option.{some}
use lib.ListN.{get_elem?}
use Rattle.segment_word.specs.Frames.{Pinned}
use Rattle.segment_word.specs.Steps.{IsSameSeat}
use Rattle.segment_word.proofs.blocks.read_words.Given as goal

abbrev pub invariant-loop-i : goal.invariant-loop-i
invariant-loop-i l = record {
  seat : IsSameSeat l.initial.seat l.seat;
  view : l.seat.me.0 ≡ l.initial.seat.me.0;
  full : length l.found ≡ 8;
  whole : (j : ℕ) (p : Pinned) → get_elem? l.initial.seat.me.0.pins j ≡ some p → p.number ≡ l.frame → 0 < l.i → length p.contents ≡ 1024;
  done : (j : ℕ) (p : Pinned) → get_elem? l.initial.seat.me.0.pins j ≡ some p → p.number ≡ l.frame → (k : ℕ) → k < l.i → slice_index l.found k ≡ slice_index p.contents (64 * l.block + l.index + k);
}
