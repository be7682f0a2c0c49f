-- Which of an object's checkpoints is the nearest to a place.
use Rattle.std.specs.Prelude.{◌≡◌, ℕ, ◌≤◌, nat_lt, if◌then◌else◌, List, [], ◌∷◌, Option, Some}
use Rattle.s4_types.specs.Pointer.{Place}
use Rattle.block_log.specs.Log.{Stored}
use Rattle.codec.specs.Entry.{EntryFields}
use Rattle.checkpoint.specs.Held.{checkpoint_held}
use Rattle.object_map.specs.declared.map.Row.{Row}
use Rattle.object_map.specs.declared.sides.Side.{Side}
use Rattle.time_read.specs.declared.starts.Start.{Start}
use Rattle.time_read.specs.Rows.{inode_of}
use Rattle.time_read.specs.Starts.{apart, place_of}

-- a checkpoint, with its place
abbrev pub start_at : List EntryFields → Side → Start
start_at entries side = record { side = side; place = place_of entries side.moment }

-- the nearer of two to a place, the first where they are as far
abbrev pub nearer : ℕ → Start → Start → Start
nearer to best other = if nat_lt (apart other.place to) (apart best.place to) then other else best

-- the nearest of one and of these others; of those that are as far, that one, or else the last of the others
abbrev pub nearest_with : List EntryFields → ℕ → Start → List Side → Start
nearest_with entries to best [] = best
nearest_with entries to best (side ∷ sides) = nearer to (nearest_with entries to best sides) (start_at entries side)

-- An object's row names a checkpoint: it tells the inode of its moment, which is not after that of the newest.
pub record IsNamed (held : Place → Option Stored) (o : ℕ) (row : Row) (side : Side) : Type 0 where
  pub told : checkpoint_held held o side.place ≡ Some (record { object = o; moment = side.moment; inode = inode_of held o row side.moment })
  pub by : side.moment ≤ row.checkpoint_moment

-- A start is a checkpoint that an object's row names, with the place of its moment.
pub record IsStart (held : Place → Option Stored) (o : ℕ) (row : Row) (entries : List EntryFields) (start : Start) : Type 0 where
  pub named : IsNamed held o row start.side
  pub place : start.place ≡ place_of entries start.side.moment
