-- Which rows of a script are shown.
use Rattle.std.specs.Prelude.{◌≡◌, ◌⊎◌, ⊤, ℕ, ◌+◌, ◌-◌, ◌<◌, ◌≤◌, min, Bool, true, false, List, [], ◌∷◌, length, slice_range}
use Rattle.std.specs.List.{list_any}
use Rattle.line_diff.specs.declared.script.Sign.{Sign}
use Rattle.line_diff.specs.declared.script.Sign.TheVariants.{Kept, Removed, Added}
use Rattle.line_diff.specs.declared.spans.RowSpan.{RowSpan}
use Rattle.line_diff.specs.Script.{TextRow}

abbrev pub is_change_sign : Sign → Bool
is_change_sign Kept = false
is_change_sign Removed = true
is_change_sign Added = true

-- whether a row changes something
abbrev pub is_change : TextRow → Bool
is_change row = is_change_sign row.sign

-- whether one of the rows from three before a row to three after it is a change
abbrev pub is_near : List TextRow → ℕ → Bool
is_near rows i = list_any is_change (slice_range rows (i - 3) (min (length rows) (i + 4)))

-- A row is shown.
pub record IsShown (rows : List TextRow) (i : ℕ) : Type 0 where
  pub within : i < length rows
  pub near : is_near rows i ≡ true

-- a row is in one of the spans
abbrev pub IsInSpans : List RowSpan → ℕ → Type 0
IsInSpans [] i = ⊥
IsInSpans (s ∷ spans) i = ((s.first ≤ i) × (i ≤ s.last)) ⊎ IsInSpans spans i

-- Spans from a row on ascend, and no two touch: between one and the next is a row at least.
abbrev pub AreSeparate : ℕ → List RowSpan → Type 0
AreSeparate low [] = ⊤
AreSeparate low (s ∷ spans) = (low ≤ s.first) × (s.first ≤ s.last) × AreSeparate (s.last + 2) spans

-- These are the spans of the rows that are shown: they ascend, no two touch, and the rows in them
-- are exactly those that are shown.
pub record AreSpansOf (rows : List TextRow) (spans : List RowSpan) : Type 0 where
  pub separate : AreSeparate 0 spans
  pub shown : (i : ℕ) → IsInSpans spans i → IsShown rows i
  pub all : (i : ℕ) → IsShown rows i → IsInSpans spans i
