use Rattle.std.proofs.Common.{◌≡◌}
use Rattle.segment_word.specs.Steps.{IsSameSeat}
use Rattle.segment_word.proofs.lending.pin.Given as goal

abbrev pub invariant-loop : goal.invariant-loop
invariant-loop l = record {
  drive : IsSameSeat l.initial.drive l.drive;
  drive_view : l.drive.me ≡ l.initial.drive.me;
  seat : IsSameSeat l.initial.seat l.seat;
  view : l.seat.me.0 ≡ l.initial.seat.me.0;
}
