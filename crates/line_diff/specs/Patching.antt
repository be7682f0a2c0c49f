-- What applying the hunks of a unified difference to a text gives.
use Rattle.std.specs.Prelude.{◌≡◌, ⊤, ℕ, ◌+◌, ◌++◌, List, [], ◌∷◌, length, map, take, drop, slice_range}
use Rattle.line_diff.specs.declared.spans.RowSpan.{RowSpan}
use Rattle.line_diff.specs.Script.{TextRow, old_lines, new_lines, IsScript}
use Rattle.line_diff.specs.Spans.{AreSpansOf}
use Rattle.line_diff.specs.Unified.{place_at}

-- a hunk as it is read: how many old lines are in front of it, and its rows
pub record Hunk : Type 0 where
  pub before : ℕ
  pub rows : List TextRow

abbrev pub hunk_of : List TextRow → RowSpan → Hunk
hunk_of rows span = record { before = (place_at rows span.first).old; rows = slice_range rows span.first (span.last + 1) }

-- the old lines from one on, with hunks applied: between hunks they stay, and in a hunk the new
-- ones take the place of the old ones
abbrev pub patched : List (List ℕ) → ℕ → List Hunk → List (List ℕ)
patched old at [] = drop at old
patched old at (h ∷ hunks) = slice_range old at h.before ++ (new_lines h.rows ++ patched old (h.before + length (old_lines h.rows)) hunks)

-- Hunks fit a text: the old lines of each are those that the text has there.
abbrev pub HunksFit : List (List ℕ) → List Hunk → Type 0
HunksFit old [] = ⊤
HunksFit old (h ∷ hunks) = (take (length (old_lines h.rows)) (drop h.before old) ≡ old_lines h.rows) × HunksFit old hunks

-- The hunks of a script fit the old lines, and where they are applied to these they give the new
-- ones. It is a clause of a function with an empty body.
abbrev pub HunksGiveNew : Type 0
HunksGiveNew = (old new : List (List ℕ)) (rows : List TextRow) (spans : List RowSpan) → IsScript old new rows → AreSpansOf rows spans
    → HunksFit old (map (hunk_of rows) spans) × (patched old 0 (map (hunk_of rows) spans) ≡ new)
