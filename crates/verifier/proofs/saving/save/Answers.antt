use Rattle.std.proofs.Common.{sym, subst}
use Rattle.verifier.specs.Saved.{SpellsSaved}
use Rattle.verifier.proofs.SeenWhole.{saved_now}
use Rattle.verifier.proofs.saving.save.Goals as goal

pub returns-clause-saved : goal.returns-clause-saved
returns-clause-saved g c =
    subst (SpellsSaved c.args.drive.now) (sym c.in_ok-push_digest.ensures.items)
    (saved_now c.args.drive.now c.clock-moment.result _ c.rules.ensures.sound c.clock-moment.ensures c.in_ok-out.ensures.saved)

pub returns-clause-promise : goal.returns-clause-promise
returns-clause-promise g c = λ base tells. c.what_is_saved_goes_on.ensures c.args.drive.now _ base c.rules.ensures.store c.rules.ensures.frames.used c.rules.ensures.decodes (returns-clause-saved g c) tells
