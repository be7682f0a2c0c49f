-- What holds across the rows of all objects.
use Rattle.std.specs.Prelude.{◌≡◌, ℕ, ◌<◌, List, Option, Some}
use Rattle.std.specs.List.{Contains}
use Rattle.s4_types.specs.Pointer.{Place}
use Rattle.block_log.specs.Log.{Stored}
use Rattle.codec.specs.Entry.{EntryFields}
use Rattle.object_map.specs.declared.map.Row.{Row}
use Rattle.object_map.specs.Rows.{row_of}
use Rattle.time_read.specs.Rows.{entries_of}

-- of two objects that have rows, the one with the greater number was made later
abbrev pub MakingsAscend : List (ℕ × Row) → Type 0
MakingsAscend rows = (o q : ℕ) (first second : Row) → o < q → row_of rows o ≡ Some first → row_of rows q ≡ Some second → first.created < second.created

-- an entry of the one list and an entry of the other are of different moments
abbrev pub ShareNoMoment : List EntryFields → List EntryFields → Type 0
ShareNoMoment entries others = (e f : EntryFields) → Contains entries e → Contains others f → e.moment ≡ f.moment → ⊥

-- no moment is in the chains of two objects
abbrev pub ChainsShareNoMoment : (Place → Option Stored) → List (ℕ × Row) → Type 0
ChainsShareNoMoment held rows = (o q : ℕ) (first second : Row) → o < q → row_of rows o ≡ Some first → row_of rows q ≡ Some second → ShareNoMoment (entries_of held o first) (entries_of held q second)
