use Rattle.std.proofs.Common.{◌≡◌, ◌*◌, length, take, drop, flat_map}
use Rattle.byteorder.specs.Endian.{big_bytes}
use Rattle.segment_word.specs.Layout.{frame_at}
use Rattle.segment_word.specs.Steps.{IsSameSeat}
use Rattle.segment_word.proofs.blocks.load_into.Given as goal

abbrev pub invariant-loop-i : goal.invariant-loop-i
invariant-loop-i l = record {
  seat : IsSameSeat l.initial.seat l.seat;
  view : l.seat.me.0 ≡ l.initial.seat.me.0;
  full : length l.bytes ≡ 512;
  done : take (64 * l.i) l.bytes ≡ flat_map (big_bytes 8) (take (8 * l.i) (drop (64 * l.block) (frame_at l.initial.seat.me.0.frames l.frame).contents));
}
