-- What is added to a line that has begun.
use Rattle.std.specs.Prelude.{◌≡◌, ℕ, ◌<◌, ◌==◌, ⊤, Bool, true, false, List, [], ◌∷◌, ◌++◌, length, slice_index, take, Option, Some, None}
use Rattle.std.specs.List.{list_any}
use Rattle.door_lines.specs.Lines.{held_of}
use Rattle.door_lines.specs.Reading.{Held, IsOver, begun_after, cut_line, held_piece, next_line}
use Rattle.door_lines.specs.declared.reader.DoorEnd.{DoorEnd}

-- no byte of it ends a line
abbrev pub IsUnbroken : List ℕ → Type 0
IsUnbroken bytes = list_any (λ byte. byte == 10) bytes ≡ false

-- After the front of a line these bytes were gone over: to the newline at a place, or all of them. This is held of the line then.
abbrev pub IsScanned : (front bytes : List ℕ) → Option ℕ → Option (List ℕ) → Type 0
IsScanned front bytes None held = IsUnbroken bytes × (held ≡ held_of (front ++ bytes))
IsScanned front bytes (Some at) held = (at < length bytes) × (slice_index bytes at ≡ 10) × IsUnbroken (take at bytes) × (held ≡ held_of (front ++ take at bytes))

-- A reader has added to a line, which is whole now, or what has begun of it goes on with the next piece.
abbrev pub Finishes : Held → (front : List ℕ) → (is_whole : Bool) → Held → Option (List ℕ) → Type 0
Finishes held front true held' line = (part : List ℕ) × (cut_line held.rest ≡ Some (part, held'.rest)) × (held'.is_full ≡ held.is_full) × (line ≡ held_of (front ++ part))
Finishes held front false held' line = (cut_line held.rest ≡ None) × (line ≡ held_of (begun_after front held))

-- a reader has read the next piece
abbrev pub Fills : Option (List (List ℕ)) → Option (List (List ℕ)) → Held → Type 0
Fills None later held = ⊤
Fills (Some pieces) None held = ⊥
Fills (Some pieces) (Some later) held = (piece : List ℕ) × (pieces ≡ piece ∷ later) × (held ≡ held_piece piece)

-- a reader has read no more, for this reason
abbrev pub Fails : Option (List (List ℕ)) → Option (List (List ℕ)) → DoorEnd → Type 0
Fails None later end = ⊤
Fails (Some pieces) None end = ⊥
Fails (Some pieces) (Some later) end = (later ≡ pieces) × IsOver end later

-- Some pieces were read: the next line is that of which a front has begun.
abbrev pub Passes : Held → Held → Option (List (List ℕ)) → Option (List (List ℕ)) → List ℕ → Type 0
Passes held held' None later front = ⊤
Passes held held' (Some pieces) None front = ⊥
Passes held held' (Some pieces) (Some later) front = (read : List (List ℕ)) × (pieces ≡ read ++ later)
    × ((more : List (List ℕ)) → next_line [] held (read ++ more) ≡ next_line front held' more)

-- A reader has read the beginning of a line so far, of which this is held.
pub record HasPassed (held held' : Held) (pieces later : Option (List (List ℕ))) (line : Option (List ℕ)) : Type 0 where
  pub front : List ℕ
  pub is : line ≡ held_of front
  pub passes : Passes held held' pieces later front
