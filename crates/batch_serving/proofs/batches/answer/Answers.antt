use Rattle.std.proofs.Common.{arith}
use Rattle.std.proofs.lemmas.Result.{on_ok_weaker}
use Rattle.batch_serving.proofs.BatchLemmas.{adds, adds_or_breaks, unsaid}
use Rattle.batch_serving.proofs.SayingLemmas.{said_none, said_one_more}
use Rattle.batch_serving.proofs.batches.answer.Goals as goal

pub returns-in_default-clause-answers : goal.returns-in_default-clause-answers
returns-in_default-clause-answers g c =
    unsaid g.B.Backend.steps g.C.Clock.draws g.K.Keeping.waits _ _ _ _ _ _ _ _ _ c.reply_to-reply.ensures.answered

pub returns-then-len-lt-BATCH_BYTES-clause-answers : goal.returns-then-len-lt-BATCH_BYTES-clause-answers
returns-then-len-lt-BATCH_BYTES-clause-answers g c =
    adds g.B.Backend.steps g.C.Clock.draws g.K.Keeping.waits _ _ _ _ _ _ _ _ _ _ c.reply_to-reply.ensures.answered c.in-Ok.ensures.frame (grind arith)

pub returns-clause-answers : goal.returns-clause-answers
returns-clause-answers g c =
    adds_or_breaks g.B.Backend.steps g.C.Clock.draws g.K.Keeping.waits c.write_out.result _ _ _ _ _ _ _ _ _ _ _ _ _ c.reply_to-reply.ensures.answered c.in-Ok.ensures.frame
    c.write_out.ensures.empty c.write_out.ensures.written

-- one reply more is said or held
pub returns-then-len-lt-BATCH_BYTES-clause-said : goal.returns-then-len-lt-BATCH_BYTES-clause-said
returns-then-len-lt-BATCH_BYTES-clause-said g c =
    said_one_more g.B.Backend.steps g.C.Clock.draws _ _ _ _ _ _ _ _ _ _ c.requires.said c.reply_to-reply.ensures.answered c.in-Ok.ensures.frame

pub write_out-requires-clause-said : goal.write_out-requires-clause-said
write_out-requires-clause-said g c =
    said_one_more g.B.Backend.steps g.C.Clock.draws _ _ _ _ _ _ _ _ _ _ c.requires.said c.reply_to-reply.ensures.answered c.in-Ok.ensures.frame

pub returns-clause-said : goal.returns-clause-said
returns-clause-said g c =
    on_ok_weaker c.write_out.result (said_none g.B.Backend.steps g.C.Clock.draws _ _ _ _ _ _ c.write_out.ensures.empty) c.write_out.ensures.said
