use Rattle.std.proofs.Common.{rules}
use Rattle.server.proofs.Rounding.{underway_more}
use Rattle.server.proofs.upkeep.go_round.Goals as goal

-- an object more had its turn
pub loop-rounds-preserved : goal.loop-rounds-preserved
loop-rounds-preserved g c = underway_more _ _ _ _ _ c.loop-rounds.invariant c.take_turn.ensures (search rules)
