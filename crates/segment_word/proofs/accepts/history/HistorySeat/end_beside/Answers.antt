use Rattle.std.proofs.Common.{subst}
use Rattle.segment_word.specs.AcceptViews.{Told, told_of}
use Rattle.segment_word.specs.AcceptRule.{ShareNone}
use Rattle.segment_word.proofs.accepts.history.HistorySeat.end_beside.Goals as goal

pub returns-clause-none : goal.returns-clause-none
returns-clause-none g c =
    subst (λ (t : Told). ShareNone t c.args.ends) c.stays.view_is
    (subst (λ (t : Told). ShareNone (told_of c.stays.inside.seat.me.0) t) c.ends.view_is c.end_beside.ensures.none)
