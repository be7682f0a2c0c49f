use Rattle.std.proofs.Common.{◌≡◌, ◌+◌, drop}
use Rattle.migration.specs.private.Ranks.{rank_in}
use Rattle.migration.proofs.places.rank_in.Given as goal

abbrev pub invariant-loop-index : goal.invariant-loop-index
invariant-loop-index l = rank_in l.place l.places ≡ l.index + rank_in l.place (drop l.index l.places)
