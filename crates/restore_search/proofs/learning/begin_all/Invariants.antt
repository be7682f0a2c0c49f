use Rattle.std.proofs.Common.{◌≡◌, false}
use Rattle.restore_search.specs.Searching.{Begins}
use Rattle.restore_search.proofs.learning.begin_all.Given as goal

-- what was begun with so far was refused, and nothing was where none is found
abbrev pub invariant-loop-one : goal.invariant-loop-one
invariant-loop-one l = record {
  begins : Begins l.fn.search l.refused l.search;
  none : l.is_begun ≡ false → l.search ≡ l.fn.search;
}
