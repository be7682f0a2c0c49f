-- What a row tells of the frames. No public clause cites this file.
use Rattle.std.specs.Prelude.{IfSome}
use Rattle.s4_types.specs.Pointer.{IsPlace}
use Rattle.object_map.specs.declared.map.Row.{Row}

-- the blocks that a row names are at places of frames
pub record NamesPlaces (row : Row) : Type 0 where
  pub checkpoint : IfSome row.checkpoint IsPlace
  pub head : IfSome row.head IsPlace
