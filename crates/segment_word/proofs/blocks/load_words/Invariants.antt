use Rattle.std.proofs.Common.{◌≡◌, ℕ, ◌+◌, ◌*◌, ◌<◌, length, slice_index}
use Rattle.segment_word.specs.Layout.{frame_at}
use Rattle.segment_word.specs.Steps.{IsSameSeat}
use Rattle.segment_word.proofs.blocks.load_words.Given as goal

abbrev pub invariant-loop-i : goal.invariant-loop-i
invariant-loop-i l = record {
  seat : IsSameSeat l.initial.seat l.seat;
  view : l.seat.me.0 ≡ l.initial.seat.me.0;
  full : length l.found ≡ 8;
  whole : 0 < l.i → length (frame_at l.initial.seat.me.0.frames l.frame).contents ≡ 1024;
  done : (k : ℕ) → k < l.i → slice_index l.found k ≡ slice_index (frame_at l.initial.seat.me.0.frames l.frame).contents (64 * l.block + l.index + k);
}
