-- What is printed in place of characters that aren't printed as they are.
use Rattle.std.specs.Prelude.{◌≡◌, ℕ, ◌+◌, ◌-◌, ◌/◌, ◌%◌, ◌++◌, ◌==◌, ◌||◌, not, nat_lt, if◌then◌else◌, Bool, true, false, List, [], ◌∷◌, IsUtf8, codes}
use Rattle.std.specs.Char.{encode_utf8}
use Rattle.std.specs.Fmt.{digits}
use Rattle.std.specs.List.{flat_map, list_all}
use Rattle.std.specs.Str.{chars}
use Rattle.hex.specs.Hex.{encode_lower}
use Rattle.shown_text.specs.Hidden.{is_hidden_character}

-- ---- for people

-- a character by its number in hex, as Rust writes it: `\u{202e}`
abbrev pub number_of : ℕ → List ℕ
number_of c = codes "\\u{" ++ (digits 16 false c ++ codes "}")

-- whether a character is printed as it is in lines, which newlines end
abbrev pub is_plain : ℕ → Bool
is_plain c = c == 10 || not (is_hidden_character c)

-- the text that shows a character of lines
abbrev pub shown_in_lines : ℕ → List ℕ
shown_in_lines c = if is_plain c then encode_utf8 c else number_of c

-- lines as they are shown
abbrev pub shown_lines : List ℕ → List ℕ
shown_lines text = flat_map shown_in_lines (chars text)

-- ---- for programs

-- a unit of UTF-16 in a text of JSON: `\u202e`
abbrev pub unit_in_json : ℕ → List ℕ
unit_in_json unit = codes "\\u" ++ encode_lower (unit / 256 ∷ unit % 256 ∷ [])

-- the two units of a character above the first 65,536: the first has its upper ten bits, and the second the lower ten
abbrev pub pair_in_json : ℕ → List ℕ
pair_in_json above = unit_in_json (0xd800 + above / 1024) ++ unit_in_json (0xdc00 + above % 1024)

-- a character by its one or two units
abbrev pub units_in_json : ℕ → List ℕ
units_in_json c = if nat_lt c 0x10000 then unit_in_json c else pair_in_json (c - 0x10000)

-- the text that shows a character of JSON, in which a string alone has characters that aren't printed as they are
abbrev pub shown_in_json : ℕ → List ℕ
shown_in_json c = if is_hidden_character c then units_in_json c else encode_utf8 c

-- JSON as it is printed
abbrev pub shown_json : List ℕ → List ℕ
shown_json text = flat_map shown_in_json (chars text)

-- ---- what this comes to: each is a clause of a function with an empty body

-- Lines are shown with characters alone that are printed as they are.
abbrev pub LinesArePlain : Type 0
LinesArePlain = (text : List ℕ) → IsUtf8 text → list_all is_plain (chars (shown_lines text)) ≡ true

-- Lines that have such alone are shown as they are.
abbrev pub PlainLinesStay : Type 0
PlainLinesStay = (text : List ℕ) → IsUtf8 text → list_all is_plain (chars text) ≡ true → shown_lines text ≡ text

-- JSON is printed without a character that isn't printed as it is.
abbrev pub JsonIsPlain : Type 0
JsonIsPlain = (text : List ℕ) → IsUtf8 text → list_all (λ c. not (is_hidden_character c)) (chars (shown_json text)) ≡ true

-- JSON that has none is printed as it is.
abbrev pub PlainJsonStays : Type 0
PlainJsonStays = (text : List ℕ) → IsUtf8 text → list_all (λ c. not (is_hidden_character c)) (chars text) ≡ true → shown_json text ≡ text
