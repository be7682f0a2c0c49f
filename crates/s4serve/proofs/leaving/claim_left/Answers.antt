use Rattle.s4serve.proofs.leaving.claim_left.Goals as goal

pub returns-in-Ok-clause-all : goal.returns-in-Ok-clause-all
returns-in-Ok-clause-all g c = λ path leads. c.in-Ok.ensures.all path (c.keep_on-claim.ensures.serves path leads)

pub returns-in-Err-clause-later : goal.returns-in-Err-clause-later
returns-in-Err-clause-later g c = c.later.ensures c.args.clock (g.F.Files.contents c.remove_leftovers.new.files) c.in-Err.ensures.later
