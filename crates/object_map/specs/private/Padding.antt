-- A list of older checkpoints in an array of SIDES.
use Rattle.std.specs.Prelude.{◌-◌, List, ◌++◌, length, replicate}
use Rattle.s4_types.specs.declared.limits.TheConstants.{SIDES}
use Rattle.object_map.specs.declared.sides.Side.{Side}

-- what comes after the list in the array
abbrev pub no_side : Side
no_side = record { moment = 0; place = record { frame = 0; block = 1; generation = 1 } }

-- the list, and blank ones after it
unfoldable pub padded_sides : List Side → List Side
padded_sides sides = sides ++ replicate (SIDES - length sides) no_side
