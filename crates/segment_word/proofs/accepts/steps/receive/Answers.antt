use Rattle.std.proofs.Common.{rules, arith, ap}
use Rattle.segment_word.specs.AcceptViews.{ledger_of}
use Rattle.segment_word.specs.AcceptSteps.{AcceptSat}
use Rattle.segment_word.proofs.AcceptMoving.{joins}
use Rattle.segment_word.proofs.accepts.steps.receive.Goals as goal

pub join_seat-requires : goal.join_seat-requires
join_seat-requires c = (search rules, search rules, ap (λ (m : AcceptSat). m.1) c.requires.other, omega (arith, c.requires.table.2), joins _ _ _ _ (ap (λ (m : AcceptSat). ledger_of m.0) c.requires.other) c.requires.for_it)
