-- Rows that turn the lines of one text into those of another.
use Rattle.std.specs.Prelude.{◌≡◌, ◌≢◌, ℕ, ◌++◌, ◌-◌, ◌<◌, Bool, true, false, List, [], length, map, filter, slice_index_or, string_bytes}
use Rattle.line_diff.specs.declared.script.Sign.{Sign}
use Rattle.line_diff.specs.declared.script.Sign.TheVariants.{Kept, Removed, Added}
use Rattle.line_diff.specs.declared.script.Row.{Row}

-- a line and what becomes of it
pub record TextRow : Type 0 where
  pub sign : Sign
  pub line : List ℕ

abbrev pub row_of : Row → TextRow
row_of row = record { sign = row.sign; line = string_bytes row.line }

-- a row that has this sign
abbrev pub row_with : Sign → List ℕ → TextRow
row_with sign line = record { sign = sign; line = line }

-- whether the old text has the line of a row
abbrev pub is_old_sign : Sign → Bool
is_old_sign Kept = true
is_old_sign Removed = true
is_old_sign Added = false

-- whether the new text has it
abbrev pub is_new_sign : Sign → Bool
is_new_sign Kept = true
is_new_sign Removed = false
is_new_sign Added = true

abbrev pub is_old : TextRow → Bool
is_old row = is_old_sign row.sign

abbrev pub is_new : TextRow → Bool
is_new row = is_new_sign row.sign

abbrev pub line_of : TextRow → List ℕ
line_of row = row.line

-- the lines that the old text has, and the new one, in order
abbrev pub old_lines : List TextRow → List (List ℕ)
old_lines rows = map line_of (filter is_old rows)

abbrev pub new_lines : List TextRow → List (List ℕ)
new_lines rows = map line_of (filter is_new rows)

-- Rows turn some lines into others: without those that were added they are the old lines, and
-- without those that were removed the new ones.
pub record Turns (old new : List (List ℕ)) (rows : List TextRow) : Type 0 where
  pub before : old_lines rows ≡ old
  pub after : new_lines rows ≡ new

-- the line at a position
abbrev pub line_at : List (List ℕ) → ℕ → List ℕ
line_at lines i = slice_index_or lines i []

-- Two lists that have lines begin with different ones, and end with different ones.
pub record AreApart (one other : List (List ℕ)) : Type 0 where
  pub begins : 0 < length one → 0 < length other → line_at one 0 ≢ line_at other 0
  pub ends : 0 < length one → 0 < length other → line_at one (length one - 1) ≢ line_at other (length other - 1)

-- Rows are a script between some lines and others: they turn the ones into the others, and keep
-- what both begin with and what both end with.
pub record IsScript (old new : List (List ℕ)) (script : List TextRow) : Type 0 where
  pub front : List (List ℕ)
  pub back : List (List ℕ)
  pub removed : List (List ℕ)
  pub added : List (List ℕ)
  pub changes : List TextRow
  pub before : old ≡ front ++ (removed ++ back)
  pub after : new ≡ front ++ (added ++ back)
  pub apart : AreApart removed added
  pub turns : Turns removed added changes
  pub rows : script ≡ map (row_with Kept) front ++ (changes ++ map (row_with Kept) back)
