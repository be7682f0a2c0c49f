-- As far as the loop has come, there are copies.
use Rattle.std.proofs.Common.{◌≡◌, take, map}
use Rattle.segment_copier.specs.Commits.{copy_at}
use Rattle.segment_copier.proofs.commits.copies_at.Given as goal

abbrev pub invariant-loop-place : goal.invariant-loop-place
invariant-loop-place g l =
    record {
      same : l.drive ≡ l.initial.drive;
      copied : l.copies.items ≡ map (copy_at l.initial.drive.store.table) (take l.place-index l.places);
    }
