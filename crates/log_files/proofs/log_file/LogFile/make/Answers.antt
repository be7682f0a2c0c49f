use Rattle.std.proofs.Common.{IsTrue, refl, sym, subst}
use Rattle.host_calls.proofs.Effects.{at_made, mode_made, others_made, replayed}
use Rattle.log_files.specs.Contents.{Contents}
use Rattle.log_files.specs.Taking.{is_sound}
use Rattle.log_files.proofs.Steps.{err_then, made_now, unmade_now}
use Rattle.log_files.proofs.log_file.LogFile.make.Goals as goal

pub invariant_of-self : goal.invariant_of-self
invariant_of-self g c =
    record { sound = subst (λ (d : Contents). IsTrue (is_sound c.args.self.now.is_usable c.args.self.now.is_torn d)) (sym (unmade_now _ _ _ _ _ _ c.in_err-file.ensures.noted)) c.args.self.now.sound }

pub returns-in_err-file-clause-others : goal.returns-in_err-file-clause-others
returns-in_err-file-clause-others g c = λ other apart. rw (replayed _ _ _ c.in_err-file.ensures.noted) record { named = refl; others = refl }

pub returns-in_err-file-clause-failed : goal.returns-in_err-file-clause-failed
returns-in_err-file-clause-failed g c = rw (replayed _ _ _ c.in_err-file.ensures.noted) refl

pub invariant_of-self-2 : goal.invariant_of-self-2
invariant_of-self-2 g c = record { sound = rw (made_now _ _ _ c.args.self.now.unwritten.writes _ _ c.in_ok-file.ensures.noted) refl }

pub returns-clause-empty : goal.returns-clause-empty
returns-clause-empty g c = made_now _ _ _ c.args.self.now.unwritten.writes _ _ c.in_ok-file.ensures.noted

pub returns-clause-at : goal.returns-clause-at
returns-clause-at g c = rw (replayed _ _ _ c.in_ok-file.ensures.noted) (at_made c.args.path.now _ _ c.in_ok-file.ensures.number)

pub returns-clause-others : goal.returns-clause-others
returns-clause-others g c = λ other apart. rw (replayed _ _ _ c.in_ok-file.ensures.noted) (others_made c.args.path.now _ _ other apart)

pub returns-clause-failed : goal.returns-clause-failed
returns-clause-failed g c = rw (replayed _ _ _ c.in_ok-file.ensures.noted) refl

pub returns-in_err-file-clause-before : goal.returns-in_err-file-clause-before
returns-in_err-file-clause-before g c = err_then c.from_residual.result _ (refl, refl, unmade_now _ _ _ c.args.self.now.unwritten.writes _ _ c.in_err-file.ensures.noted)

pub returns-clause-mode : goal.returns-clause-mode
returns-clause-mode g c = mode_made c.args.path.now _ _ _ _ c.in_ok-file.ensures.noted
