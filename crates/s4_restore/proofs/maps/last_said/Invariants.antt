use Rattle.std.proofs.Common.{◌≡◌, ◌++◌, length}
use Rattle.s4_restore.specs.Maps.{last_said}
use Rattle.s4_restore.proofs.maps.last_said.Given as goal

-- with the last of what is left, those so far are the last of all
abbrev pub invariant-loop-left : goal.invariant-loop-left
invariant-loop-left l = l.last.items ++ last_said l.left ≡ last_said l.said

abbrev pub decreases-loop-left : goal.decreases-loop-left
decreases-loop-left l = length l.left
