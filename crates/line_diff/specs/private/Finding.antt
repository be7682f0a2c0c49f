-- How the spans of the rows that are shown are found, one after the other.
use Rattle.std.specs.Prelude.{◌≡◌, ℕ, ◌+◌, ◌<◌, ◌≤◌, true, false, List, length}
use Rattle.line_diff.specs.declared.spans.RowSpan.{RowSpan}
use Rattle.line_diff.specs.Script.{TextRow}
use Rattle.line_diff.specs.Spans.{is_near}

-- No row from one on is shown.
abbrev pub IsHiddenFrom : List TextRow → ℕ → Type 0
IsHiddenFrom rows start = (i : ℕ) → start ≤ i → i < length rows → is_near rows i ≡ false

-- This is the first row from one on that is shown.
pub record IsFirstShown (rows : List TextRow) (start at : ℕ) : Type 0 where
  pub begun : start ≤ at
  pub within : at < length rows
  pub near : is_near rows at ≡ true
  pub hidden : (i : ℕ) → start ≤ i → i < at → is_near rows i ≡ false

-- Rows are shown from one to this one, both included, and the row after it isn't, if there is one.
pub record IsRunEnd (rows : List TextRow) (first last : ℕ) : Type 0 where
  pub ordered : first ≤ last
  pub within : last < length rows
  pub run : (i : ℕ) → first ≤ i → i ≤ last → is_near rows i ≡ true
  pub ended : last + 1 < length rows → is_near rows (last + 1) ≡ false

-- This is the first span from a row on.
pub record IsNextSpan (rows : List TextRow) (start : ℕ) (s : RowSpan) : Type 0 where
  pub begun : start ≤ s.first
  pub hidden : (i : ℕ) → start ≤ i → i < s.first → is_near rows i ≡ false
  pub ends : IsRunEnd rows s.first s.last
