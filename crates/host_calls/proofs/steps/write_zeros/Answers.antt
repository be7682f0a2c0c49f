use Rattle.host_calls.proofs.Effects.{changes_then}
use Rattle.host_calls.proofs.steps.write_zeros.Goals as goal

pub returns-in-Ok-eq0 : goal.returns-in-Ok-eq0
returns-in-Ok-eq0 g c = changes_then _ _ _ _ c.loop.invariant.only c.write_piece.ensures.only

pub returns-in-Err-2 : goal.returns-in-Err-2
returns-in-Err-2 g c = changes_then _ _ _ _ c.loop.invariant.only c.write_piece.ensures.only

pub loop-preserved : goal.loop-preserved
loop-preserved g c = record { only = changes_then _ _ _ _ c.loop.invariant.only c.write_piece.ensures.only }
