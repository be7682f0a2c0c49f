use Rattle.std.proofs.Common.{arith}
use Rattle.s4d_command.proofs.SessionLemmas.{cut_none, cut_some}
use Rattle.s4d_command.proofs.sessions.cut.Goals as goal

pub returns-clause-none : goal.returns-clause-none
returns-clause-none c = cut_none c.args.word.now c.split_once.result (c.split_once.ensures.byte (omega arith) (λ w o f. f))

pub returns-clause-some : goal.returns-clause-some
returns-clause-some c = cut_some c.args.word.now c.split_once.result (c.split_once.ensures.byte (omega arith) (λ w o f. f))
