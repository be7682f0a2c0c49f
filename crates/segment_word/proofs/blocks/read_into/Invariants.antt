use Rattle.std.proofs.Common.{◌≡◌, ℕ, ◌*◌, length, take, drop, flat_map}
use mathlib.Core.Option.{some}
use lib.ListN.{get_elem?}
use Rattle.byteorder.specs.Endian.{big_bytes}
use Rattle.segment_word.specs.Frames.{Pinned}
use Rattle.segment_word.specs.Steps.{IsSameSeat}
use Rattle.segment_word.proofs.blocks.read_into.Given as goal

abbrev pub invariant-loop-i : goal.invariant-loop-i
invariant-loop-i l = record {
  seat : IsSameSeat l.initial.seat l.seat;
  view : l.seat.me.0 ≡ l.initial.seat.me.0;
  full : length l.bytes ≡ 512;
  done : (j : ℕ) (p : Pinned) → get_elem? l.initial.seat.me.0.pins j ≡ some p → p.number ≡ l.frame → take (64 * l.i) l.bytes ≡ flat_map (big_bytes 8) (take (8 * l.i) (drop (64 * l.block) p.contents));
}
