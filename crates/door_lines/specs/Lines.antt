-- What a line at a door says.
use Rattle.std.specs.Prelude.{◌≡◌, ◌≢◌, ℕ, ◌≤◌, ◌<◌, ◌==◌, ◌||◌, ◌&&◌, ◌++◌, Bool, true, nat_le, nat_lt, if◌then◌else◌, List, [], ◌∷◌, length, Option, Some, None}
use Rattle.std.specs.Char.{is_ascii_alphanumeric}
use Rattle.std.specs.List.{list_all}
use Rattle.door_lines.specs.declared.line.TheConstants.{NAME_BYTES}

-- a letter, a digit or `-`
abbrev pub is_name_byte : ℕ → Bool
is_name_byte byte = is_ascii_alphanumeric byte || byte == 45

-- `stop`
abbrev pub stop_word : List ℕ
stop_word = 115 ∷ 116 ∷ 111 ∷ 112 ∷ []

-- 1 to 64 letters, digits and `-`
pub record IsName (line : List ℕ) : Type 0 where
  pub some : 0 < length line
  pub short : length line ≤ NAME_BYTES
  pub plain : list_all is_name_byte line ≡ true

-- what names a session's streams: a name other than `stop`
abbrev pub IsSessionName : List ℕ → Type 0
IsSessionName line = IsName line × (line ≢ stop_word)

-- what is held of a line, or of its beginning: all of it where it may be a name, and else nothing
abbrev pub held_of : List ℕ → Option (List ℕ)
held_of line = if nat_le (length line) NAME_BYTES && list_all is_name_byte line then Some line else None

-- what is held once a byte more has come
abbrev pub with_byte : Option (List ℕ) → ℕ → Option (List ℕ)
with_byte None byte = None
with_byte (Some line) byte = if nat_lt (length line) NAME_BYTES && is_name_byte byte then Some (line ++ byte ∷ []) else None
