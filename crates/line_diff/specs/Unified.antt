-- The text of a unified difference.
use Rattle.std.specs.Prelude.{◌≡◌, ℕ, ◌+◌, ◌-◌, ◌++◌, ◌==◌, if◌then◌else◌, Bool, List, [], length, take, slice_index, slice_range, codes, decimal}
use Rattle.std.specs.List.{flat_map}
use Rattle.line_diff.specs.declared.places.Place.{Place}
use Rattle.line_diff.specs.declared.script.Sign.{Sign}
use Rattle.line_diff.specs.declared.script.Sign.TheVariants.{Kept, Removed, Added}
use Rattle.line_diff.specs.declared.spans.RowSpan.{RowSpan}
use Rattle.line_diff.specs.Script.{TextRow, old_lines, new_lines, IsScript}
use Rattle.line_diff.specs.Spans.{AreSpansOf}

-- what is in front of a line
abbrev pub sign_text : Sign → List ℕ
sign_text Kept = codes " "
sign_text Removed = codes "-"
sign_text Added = codes "+"

-- whether a newline ends a line
abbrev pub ends_line : List ℕ → Bool
ends_line line = slice_index line (length line - 1) == 10

-- what follows a line that no newline ends
abbrev pub remark_text : List ℕ
remark_text = codes "\n\\ No newline at end of file\n"

-- a row: its sign, its line, and a remark where no newline ends that
abbrev pub row_text : TextRow → List ℕ
row_text row = sign_text row.sign ++ (row.line ++ (if ends_line row.line then [] else remark_text))

-- where lines are that have this many in front of them: the number of the first, from 1 on, and how
-- many they are where that isn't one; where they are none, the number of the line in front of them
abbrev pub side_text : ℕ → ℕ → List ℕ
side_text before lines = if lines == 0 then decimal before ++ codes ",0" else (if lines == 1 then decimal (before + 1) else decimal (before + 1) ++ (codes "," ++ decimal lines))

-- how many old and new lines are in front of a row
abbrev pub place_at : List TextRow → ℕ → Place
place_at rows i = record { old = length (old_lines (take i rows)); new = length (new_lines (take i rows)) }

-- where the lines from one place to another are in both texts
abbrev pub header_text : Place → Place → List ℕ
header_text start end = codes "@@ -" ++ (side_text start.old (end.old - start.old) ++ (codes " +" ++ (side_text start.new (end.new - start.new) ++ codes " @@\n")))

-- a hunk: where its lines are in both texts, and its rows
abbrev pub hunk_text : List TextRow → RowSpan → List ℕ
hunk_text rows span = header_text (place_at rows span.first) (place_at rows (span.last + 1)) ++ flat_map row_text (slice_range rows span.first (span.last + 1))

-- A text is the hunks of some rows: one for each span of those that are shown.
pub record ShowsHunks (rows : List TextRow) (text : List ℕ) : Type 0 where
  pub spans : List RowSpan
  pub shown : AreSpansOf rows spans
  pub hunks : text ≡ flat_map (hunk_text rows) spans

-- A text is the unified difference of some lines and others: the hunks of a script between them.
pub record IsUnified (old new : List (List ℕ)) (text : List ℕ) : Type 0 where
  pub rows : List TextRow
  pub script : IsScript old new rows
  pub hunks : ShowsHunks rows text
