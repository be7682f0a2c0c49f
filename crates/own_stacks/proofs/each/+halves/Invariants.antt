use Prim.Native.Nat.{◌+◌, ◌-◌, ◌*◌}
use lib.ListN.{length}
use Rattle.own_stacks.proofs.each.+halves.Given as goal

abbrev pub decreases-calls_from : goal.decreases-calls_from
decreases-calls_from g l = 4 * length l.s.now

abbrev pub decreases-both_halves : goal.decreases-both_halves
decreases-both_halves g l = 4 * (length l.left.now + length l.right.now) - 1

abbrev pub decreases-both_halves-front : goal.decreases-both_halves-front
decreases-both_halves-front g l = 4 * length l.left.now + 1

abbrev pub decreases-both_halves-back : goal.decreases-both_halves-back
decreases-both_halves-back g l = 4 * length l.right.now + 1
