use Rattle.std.proofs.Common.{◌∙◌, ap}
use Rattle.history_report.specs.Flushes.{flushes_and_windows_among}
use Rattle.history_report.proofs.flushes.flushes_and_windows_of.Goals as goal

pub returns-clause-flushes : goal.returns-clause-flushes
returns-clause-flushes g c = c.in_ok-flushes.ensures ∙ ap flushes_and_windows_among (c.as_slice.ensures ∙ c.in_ok-rows.ensures.rows)
