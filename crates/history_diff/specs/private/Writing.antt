-- What is written of one object.
use Rattle.std.specs.Prelude.{ℕ, List, Option}
use Rattle.std.specs.Io.KnownBytes.{Appends}
use Rattle.history_diff.specs.declared.diffing.Comparison.{Comparison}
use Rattle.history_diff.specs.Diffing.{ObjectDifference, AreLinesOf}

-- The output has the lines of a difference after it.
pub record WritesLines (c : Comparison) (row : ObjectDifference) (output output' : Option (List ℕ)) : Type 0 where
  pub text : List ℕ
  pub lines : AreLinesOf c row text
  pub wrote : Appends output output' text
