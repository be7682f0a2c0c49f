use Rattle.std.proofs.lemmas.Result.{IfOk-weaker, IfErr-weaker}
use Rattle.s4d.proofs.Left.{kept_on, kept_or_left, left_anew, untouched}
use Rattle.s4d.proofs.Said.{unopened, unwritable}
use Rattle.s4d.proofs.running.place_apart.Goals as goal

pub returns-in-Err-clause-kept : goal.returns-in-Err-clause-kept
returns-in-Err-clause-kept g c = λ other. untouched _

pub returns-in-Err-clause-fault : goal.returns-in-Err-clause-fault
returns-in-Err-clause-fault g c = λ known. unopened known c.args.path.now c.args.sessions.now c.in-Err.fault c.in-Err.ensures.fault

pub returns-clause-kept : goal.returns-clause-kept
returns-clause-kept g c = λ other.
    kept_on _ _ _
    (kept_or_left g.F.Files.leads g.F.Files.reserves c.args.claim c.args.path.now other _ _ c.requires.claimed (c.remove_leftovers.ensures.others other) (c.remove_leftovers.ensures.whole other))
    (c.beside.ensures.others other)

pub returns-clause-anew : goal.returns-clause-anew
returns-clause-anew g c =
    IfOk-weaker c.beside.result _ _
    (λ place unknown other is known. left_anew _ _ known
    (kept_or_left g.F.Files.leads g.F.Files.reserves c.args.claim c.args.path.now other _ _ c.requires.claimed (c.remove_leftovers.ensures.others other) (c.remove_leftovers.ensures.whole other))
    (unknown other is))
    c.beside.ensures.unknown

pub returns-clause-fault : goal.returns-clause-fault
returns-clause-fault g c = IfErr-weaker c.beside.result _ _ (λ fault says known. unwritable known c.args.path.now c.args.sessions.now fault says) c.beside.ensures.fault
