-- As far as the loop has come, the blocks are copied.
use Rattle.std.proofs.Common.{◌≡◌, take}
use Rattle.segment_copier.specs.Moves.{copies_of}
use Rattle.segment_copier.proofs.plans.copies_by.Given as goal

abbrev pub invariant-loop-place : goal.invariant-loop-place
invariant-loop-place l =
    record {
      same : l.pin ≡ l.initial.pin;
      copied : l.copies.items ≡ copies_of l.initial.pin.pins (take l.place-index l.places);
    }
