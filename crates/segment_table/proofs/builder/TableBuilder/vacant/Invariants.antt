use Rattle.std.proofs.Common.{◌≡◌, ◌-◌, ◌≤◌, reverse, drop}
use Rattle.std.specs.Prelude.{vec_capacity}
use Rattle.segment_table.specs.Room.{can_open, numbers}
use Rattle.segment_table.proofs.builder.TableBuilder.vacant.Given as goal

abbrev pub invariant-loop-i : goal.invariant-loop-i
invariant-loop-i l = (l.free.items ≡ reverse (numbers can_open (l.count - l.i) (drop (l.count - l.i) l.self.seat.frames))) × (l.count ≤ vec_capacity l.free)
