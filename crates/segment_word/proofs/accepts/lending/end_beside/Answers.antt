use Rattle.std.proofs.Common.{subst}
use Rattle.segment_word.specs.AcceptViews.{told_of, guest_of}
use Rattle.segment_word.specs.AcceptRule.{ShareNone}
use Rattle.segment_word.specs.AcceptSteps.{AcceptSat}
use Rattle.segment_word.proofs.accepts.lending.end_beside.Goals as goal

pub returns-clause-none : goal.returns-clause-none
returns-clause-none c = subst (λ (x : AcceptSat). ShareNone (told_of x.0) (guest_of x.0)) c.absorb.ensures.view c.shed.ensures.none
