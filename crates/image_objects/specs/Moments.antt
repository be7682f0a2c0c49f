-- The moments of the chains of rows, for the test that no two chains share one.
use Rattle.std.specs.Prelude.{ℕ, nat_eq, List, [], ◌∷◌, map, Option}
use Rattle.std.specs.List.{dedup, flat_map, AllByRecursion, IsDistinct}
use Rattle.s4_types.specs.Pointer.{Place}
use Rattle.block_log.specs.Log.{Stored}
use Rattle.codec.specs.Entry.{EntryFields}
use Rattle.version_store.specs.Across.{ShareNoMoment}
use Rattle.image_objects.specs.declared.rows.ImageRow.{ImageRow}
use Rattle.image_objects.specs.Chains.{entries_used}

-- the moments of entries, in order; that of neighbours which have one moment is told once
abbrev pub moments_of_chain : List EntryFields → List ℕ
moments_of_chain entries = dedup nat_eq (map (λ e. e.moment) entries)

-- the moments of the chains of rows, those of the first row first, where this is the chain of each
abbrev pub moments_of : (ImageRow → List EntryFields) → List ImageRow → List ℕ
moments_of chain rows = flat_map (λ row. moments_of_chain (chain row)) rows

-- the same, where the chains are those of the present version
abbrev pub moments_used : (Place → Option Stored) → List ImageRow → List ℕ
moments_used used rows = moments_of (entries_used used) rows

-- no moment is in the chains of two of these rows, where this is the chain of each
abbrev pub ChainsShareNoMoment : (ImageRow → List EntryFields) → List ImageRow → Type 0
ChainsShareNoMoment chain [] = Unit {0}
ChainsShareNoMoment chain (row ∷ rows) = AllByRecursion (λ other. ShareNoMoment (chain row) (chain other)) rows × ChainsShareNoMoment chain rows

-- no number is in a list twice
abbrev pub StandOnce : List ℕ → Type 0
StandOnce numbers = IsDistinct nat_eq numbers
