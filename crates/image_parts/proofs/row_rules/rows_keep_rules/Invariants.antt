use Rattle.image_parts.proofs.RowRules.{RowsJudged}
use Rattle.image_parts.proofs.row_rules.rows_keep_rules.Given as goal

abbrev pub invariant-loop-row : goal.invariant-loop-row
invariant-loop-row l = RowsJudged l.header l.parts.rows l.object l.created l.row-iterator
