use Rattle.std.proofs.Common.{◌∙◌}
use Rattle.line_diff.specs.Script.{is_old, is_new}
use Rattle.line_diff.proofs.PlaceCounts.{lines_counted}
use Rattle.line_diff.proofs.printing.lines_in.Goals as goal

pub returns-clause-old : goal.returns-clause-old
returns-clause-old c = c.old_rows.ensures ∙ lines_counted is_old c.args.rows.now

pub returns-clause-new : goal.returns-clause-new
returns-clause-new c = c.new_rows.ensures ∙ lines_counted is_new c.args.rows.now
