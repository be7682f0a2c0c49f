-- The older checkpoints of an object where one more comes.
use Rattle.std.specs.Prelude.{◌+◌, ◌-◌, ℕ, if◌then◌else◌, List, [], ◌∷◌, ◌++◌, length, drop, Option, Some, None, nat_lt, slice_get, option_map}
use Rattle.s4_types.specs.Pointer.{Place}
use Rattle.s4_types.specs.declared.limits.TheConstants.{SIDES}
use Rattle.object_map.specs.declared.map.Row.{Row}
use Rattle.object_map.specs.declared.sides.Side.{Side}

-- the older checkpoints with one more after them: the first of SIDES goes for it
abbrev pub sides_with : List Side → Side → List Side
sides_with sides side = drop (length sides + 1 - SIDES) (sides ++ side ∷ [])

-- the one that goes where one more comes
abbrev pub side_dropped : List Side → Option Side
side_dropped sides = if nat_lt (length sides) SIDES then None else slice_get sides 0

-- the newest checkpoint, if there is one, as one of the older ones
abbrev pub newest_side : Option Place → ℕ → List Side
newest_side None moment = []
newest_side (Some p) moment = record { moment = moment; place = p } ∷ []

-- all checkpoints that a row names, the oldest first
abbrev pub sides_named : Row → List Side
sides_named row = row.sides ++ newest_side row.checkpoint row.checkpoint_moment

-- the older checkpoints where the newest, if there is one, becomes one of them
abbrev pub sides_grown : List Side → Option Place → ℕ → List Side
sides_grown sides None moment = sides
sides_grown sides (Some p) moment = sides_with sides (record { moment = moment; place = p })

-- the one that goes for it
abbrev pub side_gone : List Side → Option Place → Option Side
side_gone sides None = None
side_gone sides (Some p) = side_dropped sides

-- the older checkpoints of a row where a newer one comes in place of its newest
abbrev pub sides_after : Row → List Side
sides_after row = sides_grown row.sides row.checkpoint row.checkpoint_moment

-- where an older checkpoint stands, if there is one
abbrev pub place_of : Option Side → Option Place
place_of side = option_map (λ s. s.place) side

-- where the checkpoint stands that goes then, if one goes
abbrev pub place_gone : Row → Option Place
place_gone row = place_of (side_gone row.sides row.checkpoint)
