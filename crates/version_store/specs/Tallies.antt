-- How often the rows of a store name each place, and what a table counts of it.
use Rattle.std.specs.Prelude.{◌≡◌, ℕ, ◌+◌, ◌*◌, ◌<◌, ◌≤◌, List, ◌++◌, length, slice_index_or, Option, Some, None}
use Rattle.std.specs.List.{count_by, flat_map, range_with_len, sum_by}
use Rattle.std.specs.Option.{option_to_list}
use Rattle.s4_types.specs.Pointer.{Place}
use Rattle.block_log.specs.declared.kinds.BlockKind.TheVariants.{Journal}
use Rattle.block_log.specs.Log.{Stored, of_kind, same_place}
use Rattle.journal_chain.specs.Chain.{chain_places}
use Rattle.object_map.specs.declared.map.Row.{Row}
use Rattle.object_map.specs.Rows.{row_of}
use Rattle.time_read.specs.Rows.{all_places_of}
use Rattle.segment_table.specs.Table.{Table}
use Rattle.segment_table.specs.Counts.{log_names, place_at}
use Rattle.version_store.specs.Store.{StoreFields, IsStore, pointers_named}

-- All places that an object's row names, each as often as it does: those of its journal's blocks, those of its checkpoints'
-- blocks, and those that its pointers to data lead to.
abbrev pub places_named : (Place → Option Stored) → ℕ → Row → List Place
places_named held o row = chain_places (of_kind Journal o held) o row.head ++ (all_places_of held o row ++ flat_map option_to_list (pointers_named held o row))

-- how often a place is one of these
abbrev pub times_at : Place → List Place → ℕ
times_at q places = count_by (λ p. same_place p q) places

-- how often an object's row, if there is one, names a place
abbrev pub times_in : (Place → Option Stored) → Place → ℕ → Option Row → ℕ
times_in held p o None = 0
times_in held p o (Some row) = times_at p (places_named held o row)

-- how often an object's row in a store names a place
abbrev pub times_named : StoreFields → Place → ℕ → ℕ
times_named s p o = times_in s.log.held p o (row_of s.rows o)

-- how often the rows of all objects below a number name a place
abbrev pub named_below : StoreFields → ℕ → Place → ℕ
named_below s n p = sum_by (λ o. times_named s p o) (range_with_len 0 n)

-- no object from this number on has a row
abbrev pub NoRowFrom : StoreFields → ℕ → Type 0
NoRowFrom s n = (q : ℕ) → n ≤ q → row_of s.rows q ≡ None

-- A log counts for each place how often the rows of all objects name it.
abbrev pub CountsAreOfRows : Type 0
CountsAreOfRows = (s : StoreFields) (n : ℕ) (p : Place) → IsStore s → NoRowFrom s n → log_names s.log p ≡ named_below s n p

-- These are 15 numbers for each of this many frames, those of frame 0 first: how often the rows of all objects below a number
-- name each of its blocks, from block 1 on, at the frame's generation.
pub record AreTallies (t : Table) (s : StoreFields) (n : ℕ) (tallies : List ℕ) : Type 0 where
  pub count : length tallies ≡ 15 * length t.seat.frames
  pub each : (f b : ℕ) → f < length t.seat.frames → b < 15 → slice_index_or tallies (15 * f + b) 0 ≡ named_below s n (place_at t f (b + 1))
