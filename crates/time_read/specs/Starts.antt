-- Where the way to an inode at a moment can begin, and how far the nearest of these places is from it. A place among the entries of
-- an object is told by how many of them are before it.
use Rattle.std.specs.Prelude.{ℕ, ◌+◌, ◌-◌, min, List, [], ◌∷◌, length, map, Option, Some, None}
use Rattle.s4_types.specs.Pointer.{Place}
use Rattle.block_log.specs.Log.{Stored}
use Rattle.codec.specs.Entry.{EntryFields}
use Rattle.undo_redo.specs.Runs.{entries_by}
use Rattle.object_map.specs.declared.map.Row.{Row}
use Rattle.object_map.specs.declared.sides.Side.{Side}
use Rattle.time_read.specs.Rows.{entries_of}

-- how far two places are apart
abbrev pub apart : ℕ → ℕ → ℕ
apart a b = (a - b) + (b - a)

-- the place of a moment: after all entries of the moment or earlier
abbrev pub place_of : List EntryFields → ℕ → ℕ
place_of entries t = length (entries_by t entries)

-- the moments of the checkpoint that is named, if one is, and of the older ones
abbrev pub moments_named : Option Place → ℕ → List Side → List ℕ
moments_named None moment sides = []
moments_named (Some p) moment sides = moment ∷ map (λ side. side.moment) sides

-- The moments at which the way can begin: those of all checkpoints that an object's row names. Where it names none, the way begins
-- before all entries, with the blank inode.
abbrev pub starts_of : Row → List ℕ
starts_of row = moments_named row.checkpoint row.checkpoint_moment row.sides

-- the least of a number and of how far the places of these moments are from a place
abbrev pub least_with : List EntryFields → ℕ → ℕ → List ℕ → ℕ
least_with entries to least [] = least
least_with entries to least (t ∷ moments) = min (apart (place_of entries t) to) (least_with entries to least moments)

-- how far the nearest of the places of these moments is from a place; without a moment, how far the place before all entries is
abbrev pub least_over : List EntryFields → ℕ → List ℕ → ℕ
least_over entries to [] = apart 0 to
least_over entries to (t ∷ moments) = least_with entries to (apart (place_of entries t) to) moments

-- how many entries lie between a moment's place and the nearest place at which the way there can begin
abbrev pub least_distance : (Place → Option Stored) → ℕ → Row → ℕ → ℕ
least_distance held o row t = least_over (entries_of held o row) (place_of (entries_of held o row) t) (starts_of row)
