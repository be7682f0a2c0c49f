use Rattle.std.proofs.Common.{length}
use Rattle.rpc.proofs.StreamLaws.{Leads}
use Rattle.rpc.proofs.frames.read_frames.Given as goal

-- the items so far were read, and what is left goes on
abbrev pub invariant-loop-rest : goal.invariant-loop-rest
invariant-loop-rest g l = Leads g.T.Message.spells l.fn.bytes l.fn.items.items l.items.items l.left

abbrev pub decreases-loop-rest : goal.decreases-loop-rest
decreases-loop-rest g l = length l.left
