use Rattle.std.proofs.Common.{length}
use Rattle.s4_restore.specs.Maps.{AreApart}
use Rattle.s4_restore.proofs.maps.check_apart.Given as goal

-- all are apart where those that are left are
abbrev pub invariant-loop-left : goal.invariant-loop-left
invariant-loop-left l = AreApart l.left → AreApart l.stand_ins

abbrev pub decreases-loop-left : goal.decreases-loop-left
decreases-loop-left l = length l.left
