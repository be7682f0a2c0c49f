use Rattle.std.proofs.Common.{◌≡◌, filter, take}
use Rattle.restore_search.specs.Searching.{is_kept}
use Rattle.restore_search.proofs.learning.kept_of.Given as goal

-- those so far
abbrev pub invariant-loop-hiding : goal.invariant-loop-hiding
invariant-loop-hiding l = l.kept.items ≡ filter (is_kept l.refused) (take l.hiding-index l.hidings)
