use Rattle.std.proofs.Common.{take}
use Rattle.std.specs.List.{flat_map}
use Rattle.rpc.specs.Stream.{ReadsItems}
use Rattle.rpc.proofs.reader.read_all.Given as goal

-- the pieces so far were read
abbrev pub invariant-loop-piece : goal.invariant-loop-piece
invariant-loop-piece g l = ReadsItems g.T.Message.spells (flat_map (λ piece. piece.items) (take l.piece-index l.pieces)) l.items.items l.reader
