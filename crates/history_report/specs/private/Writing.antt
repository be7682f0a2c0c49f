-- What is written of one object.
use Rattle.std.specs.Prelude.{◌≡◌, ℕ, List, Option}
use Rattle.std.specs.Io.KnownBytes.{Appends}
use Rattle.history_diff.specs.Diffing.{ObjectDifference}
use Rattle.history_report.specs.Page.{page_text}
use Rattle.history_report.specs.Differences.{IsShownBy, ShownDifference, difference_of, lines_of}

abbrev pub shown_by : ObjectDifference → List ℕ → ShownDifference
shown_by d detail = record { differing = d; detail = detail }

-- The output has the lines that show an object's difference after it.
pub record WritesDetail (d : ObjectDifference) (output output' : Option (List ℕ)) : Type 0 where
  pub detail : List ℕ
  pub shown : IsShownBy d detail
  pub wrote : Appends output output' detail

-- These are the lines of an object's difference.
pub record AreLines (d : ObjectDifference) (lines : List ℕ) : Type 0 where
  pub detail : List ℕ
  pub shown : IsShownBy d detail
  pub are : lines ≡ lines_of (shown_by d detail)

-- The output has the part about an object's difference after it.
pub record WritesShown (d : ObjectDifference) (output output' : Option (List ℕ)) : Type 0 where
  pub detail : List ℕ
  pub shown : IsShownBy d detail
  pub wrote : Appends output output' (page_text (difference_of (shown_by d detail)))
