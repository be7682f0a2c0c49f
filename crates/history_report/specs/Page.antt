-- A page as a list of parts: fixed texts, and data, which is escaped.
use Rattle.std.specs.Prelude.{ℕ, ◌==◌, if◌then◌else◌, List, codes}
use Rattle.std.specs.List.{flat_map}
use Rattle.std.specs.Str.{chars, is_utf8}
use Rattle.hex.specs.Hex.{encode_lower}
use Rattle.shown_text.specs.Shown.{shown_in_lines}

-- a part: a fixed text of this crate, or data
pub data Part : Type 0 where
  Constant : List ℕ → Part
  Escaped : List ℕ → Part

-- a character as a page has it: those that mean something to HTML as entities, those that aren't printed as they are by their numbers
abbrev pub escaped_char : ℕ → List ℕ
escaped_char c =
    if c == 60 then codes "&lt;" else
    (if c == 62 then codes "&gt;" else
    (if c == 38 then codes "&amp;" else
    (if c == 34 then codes "&quot;" else
    (if c == 39 then codes "&#39;" else shown_in_lines c))))

-- bytes as text: themselves where they are UTF-8, and else in hex
abbrev pub shown : List ℕ → List ℕ
shown bytes = if is_utf8 bytes then bytes else encode_lower bytes

-- the text of data on a page
abbrev pub escaped : List ℕ → List ℕ
escaped text = flat_map escaped_char (chars text)

-- the text of a part
abbrev pub part_text : Part → List ℕ
part_text (Constant text) = text
part_text (Escaped bytes) = escaped (shown bytes)

-- the text of parts: one after the other
abbrev pub page_text : List Part → List ℕ
page_text parts = flat_map part_text parts
