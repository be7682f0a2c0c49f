use Rattle.std.proofs.Common.{inl, arith}
use Rattle.rpc.proofs.ReplyLaws.{reply_exact}
use Rattle.rpc.proofs.Answered.{only_one, says_nothing}
use Rattle.rpc.proofs.replies.decode_reply.Goals as goal

pub returns-in-Ok-clause-found : goal.returns-in-Ok-clause-found
returns-in-Ok-clause-found c = reply_exact.found c.args.body.now c.in-Ok.reply (λ i. omega (arith, c.type_inv.body i)) c.in-Ok.ensures

pub returns-in-Ok-clause-only : goal.returns-in-Ok-clause-only
returns-in-Ok-clause-only c = λ reply s. let same = only_one reply_exact c.args.body.now c.in-Ok.reply reply c.in-Ok.ensures s in inl cc

pub returns-in-Err-Misspelled-clause-only : goal.returns-in-Err-Misspelled-clause-only
returns-in-Err-Misspelled-clause-only c = λ reply s. absurd (says_nothing reply_exact c.args.body.now (rw c.in-Err-Misspelled.field-0-is at c.in-Err-Misspelled.ensures) reply s)

pub returns-in-Err-Misspelled-clause-bad : goal.returns-in-Err-Misspelled-clause-bad
returns-in-Err-Misspelled-clause-bad c = λ e reply s. says_nothing reply_exact c.args.body.now (rw c.in-Err-Misspelled.field-0-is at c.in-Err-Misspelled.ensures) reply s
