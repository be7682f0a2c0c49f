use Rattle.std.proofs.Common.{take}
use Rattle.restore_search.specs.Searching.{Leaves}
use Rattle.restore_search.proofs.learning.leave_all.Given as goal

-- those so far are left out
abbrev pub invariant-loop-one : goal.invariant-loop-one
invariant-loop-one l = Leaves l.fn.search (take l.one-index l.lacking) l.search
