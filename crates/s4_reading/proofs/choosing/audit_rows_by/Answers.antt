use Rattle.std.proofs.Common.{◌∙◌, ap, filter}
use Rattle.s4_reading.proofs.choosing.audit_rows_by.Goals as goal

pub returns-clause-rows : goal.returns-clause-rows
returns-clause-rows g c = c.in_ok-kept.ensures ∙ ap (filter (g.C.Chooses.chooses c.args.by.now)) (c.as_slice.ensures ∙ c.in_ok-rows.ensures.rows)
