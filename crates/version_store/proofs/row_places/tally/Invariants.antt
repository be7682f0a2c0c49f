use Rattle.std.proofs.Common.{take}
use Rattle.version_store.specs.private.Tallying.{Grows}
use Rattle.version_store.proofs.row_places.tally.Given as goal

abbrev pub invariant-loop-pointer : goal.invariant-loop-pointer
invariant-loop-pointer l = Grows l.initial.tallies (take l.pointer-index l.pointers) l.tallies
