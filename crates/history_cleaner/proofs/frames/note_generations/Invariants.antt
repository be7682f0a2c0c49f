use Rattle.std.proofs.Common.{◌≡◌, map}
use Rattle.std.specs.List.{range_with_len}
use Rattle.history_cleaner.proofs.Rising.{generation_at}
use Rattle.history_cleaner.proofs.frames.note_generations.Given as goal

abbrev pub invariant-loop-frame : goal.invariant-loop-frame
invariant-loop-frame g l = record {
  noted : l.noted.items ≡ map (generation_at l.initial.drive.store.table.seat.frames) (range_with_len 0 l.frame);
  same : l.drive ≡ l.initial.drive;
}
