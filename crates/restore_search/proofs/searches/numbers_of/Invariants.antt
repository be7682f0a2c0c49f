use Rattle.std.proofs.Common.{◌≡◌, take}
use Rattle.restore_search.specs.Searching.{numbers_of}
use Rattle.restore_search.proofs.searches.numbers_of.Given as goal

-- those so far
abbrev pub invariant-loop-one : goal.invariant-loop-one
invariant-loop-one l = l.numbers.items ≡ numbers_of (take l.one-index l.lacking)
