use Rattle.std.proofs.Common.{◌-◌, ◌^◌}
use Rattle.server.proofs.Rounding.{IsUnderway}
use Rattle.server.proofs.upkeep.go_round.Given as goal

-- the objects up to the last one had their turn
abbrev pub invariant-loop-rounds : goal.invariant-loop-rounds
invariant-loop-rounds g l = IsUnderway g.J.Naming.base l.rounds.passed l.turns

-- the number of the last one rises
abbrev pub decreases-loop-rounds : goal.decreases-loop-rounds
decreases-loop-rounds g l = 2 ^ 64 - l.rounds.passed
