-- Rows judged one by one, as a loop does.
use Rattle.std.proofs.Common.{ℕ, List}
use Rattle.image_parts.specs.Rows.{RowsFollow, KeepRowRules}
use Rattle.image_parts.specs.declared.headers.Header.{Header}
use Rattle.image_parts.specs.declared.rows.RowPart.{RowPart}

-- all rows keep the rules exactly where those that are left do, after one of this object and creation
pub record RowsJudged (h : Header) (all : List RowPart) (object created : ℕ) (left : List RowPart) : Type 0 where
  pub on : RowsFollow h object created left → KeepRowRules h all
  pub back : KeepRowRules h all → RowsFollow h object created left
