use Rattle.std.proofs.lemmas.Result.{on_ok_weaker}
use Rattle.s4serve.proofs.leaving.refuse_beside.Goals as goal

pub returns-clause-none : goal.returns-clause-none
returns-clause-none g c =
    on_ok_weaker c.refuse_whole-refused.result (λ none path leads. none path (c.keep_on-of_service.ensures.serves path leads)) c.refuse_whole-refused.ensures.none
