use Rattle.std.proofs.lemmas.Result.{on_ok_weaker}
use Rattle.image_commands.proofs.leftovers.refuse_numbered.Goals as goal

pub returns-in-Ok-Some-clause-none : goal.returns-in-Ok-Some-clause-none
returns-in-Ok-Some-clause-none g c =
    let all = rw c.in-Ok-Some.field-0-is at c.in-Ok-Some.ensures.all in
    on_ok_weaker c.refuse_leftover.result (λ none image path serves there. none path (all image serves path there)) c.refuse_leftover.ensures.none

pub returns-in-Ok-None-clause-none : goal.returns-in-Ok-None-clause-none
returns-in-Ok-None-clause-none g c =
    let all = rw c.in-Ok-None.field-0-is at c.in-Ok-None.ensures.all in
    λ image path serves there. absurd (all image serves path there)
