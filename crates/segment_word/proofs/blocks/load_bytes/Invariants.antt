use Rattle.std.proofs.Common.{◌≡◌, ◌+◌, ◌-◌, ◌≤◌, length}
use Rattle.segment_word.specs.Layout.{frame_at}
use Rattle.segment_word.specs.Steps.{IsSameSeat}
use Rattle.segment_word.specs.private.Pins.{GrowsByBlock}
use Rattle.segment_word.proofs.blocks.load_bytes.Given as goal

abbrev pub invariant-loop-next : goal.invariant-loop-next
invariant-loop-next l = record {
  seat : IsSameSeat l.initial.seat l.seat;
  view : l.seat.me.0 ≡ l.initial.seat.me.0;
  low : l.from ≤ l.next;
  high : l.next ≤ l.to;
  added : length l.into.items ≡ length l.initial.into.items + (l.next - l.from);
  done : GrowsByBlock (frame_at l.initial.seat.me.0.frames l.frame).contents l.block l.from l.next l.initial.into.items l.into.items;
}

abbrev pub decreases-loop-next : goal.decreases-loop-next
decreases-loop-next l = l.to - l.next
