-- How often rows name places, counted pointer by pointer. No public clause cites this file.
use Rattle.std.specs.Prelude.{◌≡◌, ℕ, ◌+◌, ◌-◌, ◌*◌, ◌<◌, ◌==◌, Bool, false, List, [], ◌++◌, map, length, slice_index_or, Option, Some, None, IfSome}
use Rattle.std.specs.List.{count_by}
use Rattle.s4_types.specs.Pointer.{Place}
use Rattle.block_log.specs.declared.kinds.BlockKind.TheVariants.{Journal}
use Rattle.block_log.specs.Log.{Stored, of_kind}
use Rattle.journal_chain.specs.Chain.{chain_places}
use Rattle.object_map.specs.declared.map.Row.{Row}
use Rattle.time_read.specs.Rows.{all_places_of}
use Rattle.version_store.specs.Store.{pointers_named}

-- all places that an object's row names, as pointers, each as often as it does, and its holes among them
abbrev pub pointers_to : (Place → Option Stored) → ℕ → Row → List (Option Place)
pointers_to held o row = map Some (chain_places (of_kind Journal o held) o row.head) ++ (map Some (all_places_of held o row) ++ pointers_named held o row)

-- the same of an object that may have no row
abbrev pub pointers_by : (Place → Option Stored) → ℕ → Option Row → List (Option Place)
pointers_by held o None = []
pointers_by held o (Some row) = pointers_to held o row

-- the number of a place among those of all frames, 15 of each frame: block 1 of frame 0 has number 0
abbrev pub number_of : Place → ℕ
number_of p = 15 * p.frame + (p.block - 1)

-- whether a pointer refers to the place of this number
abbrev pub is_on : ℕ → Option Place → Bool
is_on i None = false
is_on i (Some p) = number_of p == i

-- how many of these pointers refer to the place of this number
abbrev pub times_on : ℕ → List (Option Place) → ℕ
times_on i pointers = count_by (λ pointer. is_on i pointer) pointers

-- a pointer is a hole, or refers to a place of a number below this one
abbrev pub IsWithin : ℕ → Option Place → Type 0
IsWithin n pointer = IfSome pointer (λ p. number_of p < n)

-- Each tally has grown by how many of these pointers refer to the place of its number.
pub record Grows (old : List ℕ) (pointers : List (Option Place)) (new : List ℕ) : Type 0 where
  pub count : length new ≡ length old
  pub each : (i : ℕ) → i < length old → slice_index_or new i 0 ≡ slice_index_or old i 0 + times_on i pointers
