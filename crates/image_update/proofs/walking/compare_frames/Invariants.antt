use Rattle.std.proofs.Common.{◌≡◌, ◌-◌, length}
use Rattle.image_update.specs.Layout.{after_frames, frame_pairs}
use Rattle.image_update.specs.Pairs.{HasRoom, built, built_in}
use Rattle.image_update.proofs.walking.compare_frames.Given as goal

abbrev pub invariant-loop : goal.invariant-loop
invariant-loop l = record {
  pairs : built (frame_pairs (l.count - l.counter) l.old_rest l.new_rest) (built_in l.out) ≡ built (frame_pairs l.count l.fn.old l.fn.new) (built_in l.initial.out);
  old : after_frames (l.count - l.counter) l.old_rest ≡ after_frames l.count l.fn.old;
  new : after_frames (l.count - l.counter) l.new_rest ≡ after_frames l.count l.fn.new;
  room : HasRoom (built_in l.out) (length l.old_rest) (length l.new_rest);
}
