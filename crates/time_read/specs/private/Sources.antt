-- Where a plan has its pieces from.
use Rattle.time_read.specs.Plans.{Piece, Hole, Copied, Pinned}
use Rattle.time_read.specs.declared.plans.Source.{Source}
use Rattle.time_read.specs.declared.plans.Source.TheVariants.{Nowhere, Copy, Frame}

-- the piece that a source is told as
abbrev pub piece_from : Source → Piece
piece_from Nowhere = Hole
piece_from (Copy block) = Copied block.value
piece_from (Frame frame block) = Pinned frame block
