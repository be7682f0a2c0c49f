-- What a reader takes off a door.
use Rattle.std.specs.Prelude.{◌≡◌, ◌≢◌, ℕ, ◌<◌, ◌==◌, ⊤, Bool, if◌then◌else◌, List, [], ◌∷◌, ◌++◌, length, Option, Some, None, option_map, Result, Ok, Err}
use Rattle.std.specs.Option.{option_or}
use Rattle.door_lines.specs.Lines.{IsSessionName, stop_word}
use Rattle.door_lines.specs.declared.line.DoorLine.{DoorLine}
use Rattle.door_lines.specs.declared.line.DoorLine.TheVariants.{Stop, Session, Nothing}
use Rattle.door_lines.specs.declared.reader.DoorEnd.{DoorEnd}
use Rattle.door_lines.specs.declared.reader.DoorEnd.TheVariants.{Ended, ReadFailed}
use Rattle.door_lines.specs.declared.reader.TheConstants.{PIECE_BYTES}

-- a line says this, and nothing else
abbrev pub Says : List ℕ → DoorLine → Type 0
Says line Stop = line ≡ stop_word
Says line (Session name) = (name ≡ line) × IsSessionName line
Says line Nothing = (line ≢ stop_word) × (IsSessionName line → ⊥)

-- what a read gave is the next of the pieces, or nothing at their end
abbrev pub IsNext : List (List ℕ) → List (List ℕ) → List ℕ → Type 0
IsNext [] later given = (given ≡ []) × (later ≡ [])
IsNext (piece ∷ pieces) later given = (given ≡ piece) × (later ≡ pieces) × (0 < length piece)

-- so it is where the pieces are known
abbrev pub GivesPiece : Option (List (List ℕ)) → Option (List (List ℕ)) → List ℕ → Type 0
GivesPiece None later given = ⊤
GivesPiece (Some pieces) None given = ⊥
GivesPiece (Some pieces) (Some later) given = IsNext pieces later given

-- known pieces stay
abbrev pub KeepsPieces : Option (List (List ℕ)) → Option (List (List ℕ)) → Type 0
KeepsPieces None later = ⊤
KeepsPieces (Some pieces) None = ⊥
KeepsPieces (Some pieces) (Some later) = later ≡ pieces

-- What a reader has of the piece that it read last: what it hasn't used yet, and whether the piece has all the bytes that one can have.
pub record Held : Type 0 where
  pub rest : List ℕ
  pub is_full : Bool

-- a piece that was read
abbrev pub held_piece : List ℕ → Held
held_piece piece = record { rest = piece; is_full = length piece == PIECE_BYTES }

-- bytes up to their first newline, and those after it
abbrev pub cut_line : List ℕ → Option (List ℕ × List ℕ)
cut_line [] = None
cut_line (byte ∷ bytes) = if byte == 10 then Some ([], bytes) else option_map (λ cut. (byte ∷ cut.0, cut.1)) (cut_line bytes)

-- What has begun of a line where a piece ends within it: all so far where the piece is full, as the line goes on in the next one. Else somebody wrote half a
-- line, and nothing has begun.
abbrev pub begun_after : List ℕ → Held → List ℕ
begun_after front held = if held.is_full then front ++ held.rest else []

-- a line, what is held after it, and the pieces that are left
pub record NextLine : Type 0 where
  pub line : List ℕ
  pub held : Held
  pub pieces : List (List ℕ)

-- the line of which this front has begun, where what is held has the rest of it
abbrev pub line_held : List ℕ → Held → List (List ℕ) → Option NextLine
line_held front held pieces = option_map (λ cut. record { line = front ++ cut.0; held = record { rest = cut.1; is_full = held.is_full }; pieces = pieces }) (cut_line held.rest)

-- the next line, of which this front has begun, by what is held and the pieces that come
abbrev pub next_line : List ℕ → Held → List (List ℕ) → Option NextLine
next_line front held [] = line_held front held []
next_line front held (piece ∷ pieces) = option_or (line_held front held (piece ∷ pieces)) (next_line (begun_after front held) (held_piece piece) pieces)

-- A reader has taken off the next line, which says this.
abbrev pub Takes : Held → Held → Option (List (List ℕ)) → Option (List (List ℕ)) → DoorLine → Type 0
Takes held held' None later said = ⊤
Takes held held' (Some pieces) None said = ⊥
Takes held held' (Some pieces) (Some later) said = (line : List ℕ) × (next_line [] held pieces ≡ Some (record { line = line; held = held'; pieces = later })) × Says line said

-- no piece is left where the reader says so
abbrev pub IsOver : DoorEnd → List (List ℕ) → Type 0
IsOver Ended later = later ≡ []
IsOver ReadFailed later = ⊤

-- A reader has come to this end. What it held and the pieces that it has read have no whole line.
abbrev pub Ends : Held → Option (List (List ℕ)) → Option (List (List ℕ)) → DoorEnd → Type 0
Ends held None later end = ⊤
Ends held (Some pieces) None end = ⊥
Ends held (Some pieces) (Some later) end = (read : List (List ℕ)) × (pieces ≡ read ++ later) × (next_line [] held read ≡ None) × IsOver end later

-- how often the source has failed where a reader answers so
abbrev pub failures_by : {T : Type 0} → Result T DoorEnd → ℕ
failures_by (Ok line) = 0
failures_by (Err Ended) = 0
failures_by (Err ReadFailed) = 1
