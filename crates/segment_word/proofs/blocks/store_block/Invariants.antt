use Rattle.std.proofs.Common.{◌≡◌, ◌*◌, ◌<◌, length}
use Rattle.segment_word.specs.Layout.{frame_at, block_words, with_words}
use Rattle.segment_word.specs.Steps.{IsSameSeat, with_frame}
use Rattle.segment_word.proofs.blocks.store_block.Given as goal

abbrev pub invariant-loop-i : goal.invariant-loop-i
invariant-loop-i l = record {
  seat : IsSameSeat l.initial.seat l.seat;
  view : l.seat.me.0 ≡ with_frame l.initial.seat.me.0 l.frame (with_words (frame_at l.initial.seat.me.0.frames l.frame) (64 * l.block) (block_words l.bytes) l.i);
  whole : 0 < l.i → length (frame_at l.initial.seat.me.0.frames l.frame).contents ≡ 1024;
}
