use Rattle.std.proofs.Common.{inl, arith}
use Rattle.rpc.proofs.RequestLaws.{request_exact}
use Rattle.rpc.proofs.Answered.{only_one, says_nothing}
use Rattle.rpc.proofs.requests.decode_request.Goals as goal

pub returns-in-Ok-clause-found : goal.returns-in-Ok-clause-found
returns-in-Ok-clause-found c = request_exact.found c.args.body.now c.in-Ok.request (λ i. omega (arith, c.type_inv.body i)) c.in-Ok.ensures

pub returns-in-Ok-clause-only : goal.returns-in-Ok-clause-only
returns-in-Ok-clause-only c = λ request s. let same = only_one request_exact c.args.body.now c.in-Ok.request request c.in-Ok.ensures s in inl cc

pub returns-in-Err-Misspelled-clause-only : goal.returns-in-Err-Misspelled-clause-only
returns-in-Err-Misspelled-clause-only c = λ request s. absurd (says_nothing request_exact c.args.body.now (rw c.in-Err-Misspelled.field-0-is at c.in-Err-Misspelled.ensures) request s)

pub returns-in-Err-Misspelled-clause-bad : goal.returns-in-Err-Misspelled-clause-bad
returns-in-Err-Misspelled-clause-bad c = λ e request s. says_nothing request_exact c.args.body.now (rw c.in-Err-Misspelled.field-0-is at c.in-Err-Misspelled.ensures) request s
