use Rattle.std.proofs.Common.{◌≡◌, ◌≢◌, ℕ, length}
use Rattle.segment_word.specs.Frames.{Open}
use Rattle.segment_word.specs.Layout.{frame_at}
use Rattle.layer_tests.proofs.tests.seats.fill.Given as goal

abbrev pub invariant-loop-block : goal.invariant-loop-block
invariant-loop-block l = record {
  table : l.drive.table ≡ l.initial.drive.table;
  count : length l.drive.frames ≡ length l.initial.drive.frames;
  is_open : (frame_at l.drive.frames l.frame).phase ≡ Open;
  others : (g : ℕ) → g ≢ l.frame → frame_at l.drive.frames g ≡ frame_at l.initial.drive.frames g;
}
