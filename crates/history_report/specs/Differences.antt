-- What differs between two moments of a drive, object by object.
use Rattle.std.specs.Prelude.{◌≡◌, ℕ, zero, suc, ◌+◌, ◌++◌, ◌==◌, nat_lt, if◌then◌else◌, Bool, List, [], ◌∷◌, map, length, take, Option, Some, None, codes, decimal}
use Rattle.std.specs.List.{AllByRecursion}
use Rattle.s4_model.specs.State.{State}
use Rattle.history_view.specs.Contents.{content_of}
use Rattle.history_diff.specs.Diffing.{ObjectDifference, AreDifferencesFrom}
use Rattle.history_diff.specs.Lines.{difference_line}
use Rattle.history_diff.specs.Patches.{patch_lines}
use Rattle.history_diff.specs.Texts.{AreHunksOf}
use Rattle.history_diff.specs.declared.ranges.ByteRange.{ByteRange}
use Rattle.history_report.specs.declared.differences.TheConstants.{DIFFERENCE_LINES}
use Rattle.history_report.specs.Page.{Part, Constant, Escaped}

-- an object that differs, and the lines that show it
pub record ShownDifference : Type 0 where
  pub differing : ObjectDifference
  pub detail : List ℕ

-- hunks where there are any, and else other lines
abbrev pub hunks_or : List ℕ → Option (List ℕ) → List ℕ
hunks_or others None = others
hunks_or others (Some hunks) = hunks

-- These lines show what differs between two lists of bytes: where both are UTF-8 text the hunks of their unified difference, and else the
-- bytes that differ in hex.
pub record IsDetailOf (old new : List ℕ) (ranges : List ByteRange) (detail : List ℕ) : Type 0 where
  pub hunks : Option (List ℕ)
  pub are : AreHunksOf old new hunks
  pub is : detail ≡ hunks_or (patch_lines old new ranges) hunks

-- The lines show what differs of an object.
abbrev pub IsShownBy : ObjectDifference → List ℕ → Type 0
IsShownBy d detail = IsDetailOf (content_of d.before) (content_of d.after) d.told.ranges detail

-- These are the differences of all objects above one between two moments, by ascending number, and each is shown by its lines.
pub record AreShownFrom (s : State) (from until above : ℕ) (differences : List ShownDifference) : Type 0 where
  pub differing : AreDifferencesFrom s from until above (map (λ d. d.differing) differences)
  pub shown : AllByRecursion (λ d. IsShownBy d.differing d.detail) differences

-- its lines: what was done, and what shows it
abbrev pub lines_of : ShownDifference → List ℕ
lines_of d = difference_line d.differing.object d.differing.told ++ d.detail

-- how many bytes the first lines have, at most as many lines as a number, each with its end
abbrev pub lines_end : ℕ → List ℕ → ℕ
lines_end zero bytes = 0
lines_end (suc n) [] = 0
lines_end (suc n) (b ∷ bytes) = (if b == 10 then lines_end n bytes else lines_end (suc n) bytes) + 1

-- the lines of a difference that a page has
abbrev pub first_lines : List ℕ → List ℕ
first_lines bytes = take (lines_end DIFFERENCE_LINES bytes) bytes

-- whether there are more
abbrev pub has_more_lines : List ℕ → Bool
has_more_lines bytes = nat_lt (lines_end DIFFERENCE_LINES bytes) (length bytes)

-- the end of a difference, which says where it was cut
abbrev pub difference_end : Bool → List ℕ
difference_end is_cut = if is_cut then codes "</pre>\n<p>Cut at 200 lines; s4 diff prints all with --text or --patch.</p>\n" else codes "</pre>\n"

-- the part of a page about an object of these lines
abbrev pub difference_by : ℕ → List ℕ → List Part
difference_by o lines = Constant (codes "<h3>object ") ∷ Escaped (decimal o) ∷ Constant (codes "</h3>\n<pre>") ∷ Escaped (first_lines lines) ∷ Constant (difference_end (has_more_lines lines)) ∷ []

-- the part of a page about what differs of an object
abbrev pub difference_of : ShownDifference → List Part
difference_of d = difference_by d.differing.object (lines_of d)
