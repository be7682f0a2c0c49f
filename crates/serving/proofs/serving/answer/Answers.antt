use Rattle.serving.proofs.AnsweringLemmas.{one_item}
use Rattle.serving.proofs.serving.answer.Goals as goal

pub returns-clause-answers : goal.returns-clause-answers
returns-clause-answers g c =
    one_item g.B.Backend.steps g.C.Clock.draws _ _ _ _ _ _ _ _ c.say.result c.reply_to-reply.ensures.answered c.say.ensures.said
