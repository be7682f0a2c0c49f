use Rattle.std.proofs.Common.{◌∙◌, ap}
use Rattle.s4_reading.specs.Auditing.{at_most}
use Rattle.s4_reading.proofs.auditing.rows_shown.Goals as goal

pub returns-clause-rows : goal.returns-clause-rows
returns-clause-rows g c =
    c.at_most.ensures ∙ ap (at_most c.args.limit) c.in_ok-among.ensures.rows
