use Rattle.std.proofs.Common.{rules, arith, ap}
use Rattle.segment_word.specs.AcceptSteps.{AcceptSat}
use Rattle.segment_word.proofs.AcceptMoving.{absorbs}
use Rattle.segment_word.proofs.accepts.steps.absorb.Goals as goal

pub join_seat-requires : goal.join_seat-requires
join_seat-requires c = (search rules, search rules, ap (λ (m : AcceptSat). m.1) c.requires.other, omega (arith, c.requires.table.2), absorbs _ _ _ _ c.requires.session c.requires.other)
