-- What becomes of a table's blocks where an object's checkpoint is written anew, and where its older ones are dropped.
use Rattle.std.specs.Prelude.{◌≡◌, ℕ, true, false, List, Option, None}
use Rattle.s4_types.specs.Pointer.{Place}
use Rattle.block_log.specs.Log.{Stored}
use Rattle.checkpoint.specs.Held.{of_checkpoints, places_named, is_one_of, OnlyCheckpointChanged}
use Rattle.object_map.specs.declared.map.Row.{Row}
use Rattle.object_map.specs.declared.sides.Side.{Side}
use Rattle.object_map.specs.Sides.{place_gone}
use Rattle.time_read.specs.Rows.{side_places}

-- Blocks were put at the new places, where nothing was held; nothing is held at the old places; all other places are as they
-- were.
pub record IsMoved (held : Place → Option Stored) (old new : List Place) (later : Place → Option Stored) : Type 0 where
  pub fresh : (q : Place) → is_one_of new q ≡ true → held q ≡ None
  pub gone : (q : Place) → is_one_of old q ≡ true → later q ≡ None
  pub kept : (q : Place) → is_one_of old q ≡ false → is_one_of new q ≡ false → later q ≡ held q

-- the places of the older checkpoint that goes where an object's newest becomes an older one, if one goes
abbrev pub places_gone : (Place → Option Stored) → ℕ → Row → List Place
places_gone held o row = places_named (of_checkpoints o held) (place_gone row)

-- No block of these older checkpoints of an object is held any longer; all else is as it was.
pub record DropsSides (before : Place → Option Stored) (o : ℕ) (sides : List Side) (after : Place → Option Stored) : Type 0 where
  pub gone : (q : Place) → is_one_of (side_places (of_checkpoints o before) sides) q ≡ true → after q ≡ None
  pub kept : (q : Place) → is_one_of (side_places (of_checkpoints o before) sides) q ≡ false → after q ≡ before q
  pub others : OnlyCheckpointChanged o before after
