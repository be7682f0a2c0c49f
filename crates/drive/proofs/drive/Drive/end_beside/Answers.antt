use Rattle.std.proofs.Common.{subst}
use Rattle.segment_word.specs.AcceptRule.{ShareNone}
use Rattle.segment_word.specs.AcceptViews.{Told}
use Rattle.drive.specs.Fields.{SessionFields}
use Rattle.drive.proofs.drive.Drive.end_beside.Goals as goal

pub returns-clause-none : goal.returns-clause-none
returns-clause-none g c =
    subst (λ (s : SessionFields). ShareNone s.told c.args.ends.told) c.stays.view_is
    (subst (λ (t : Told). ShareNone c.stays.inside.seat t) c.into_seat.ensures c.end_beside.ensures.none)
