use Rattle.std.proofs.Common.{inl, inr, map, rules, subst}
use Rattle.clap.specs.Faults.{fault_of}
use Rattle.clap.specs.Values.{kind_of}
use Rattle.s4_command.specs.CommandLine.{line}
use Rattle.refused_lines.specs.Refusals.{IsAskedAmong}
use Rattle.s4.specs.Performing.{IsUsage}
use Rattle.s4.proofs.Undone.{undone_on}
use Rattle.s4.proofs.performing.perform.Goals as goal

-- the words give the command that isn't done, or is
pub returns-in-Ok-clause-kept : goal.returns-in-Ok-clause-kept
returns-in-Ok-clause-kept g c = λ failed.
    rw (← c.asks.ensures.passed) (undone_on _ _ _ _ (λ done. inl (c.in-Ok.command, c.in-Ok.ensures.spelled, done)) (c.perform_command.ensures.kept failed))

-- they encode the command that status 1 says something of
pub returns-in-Ok-clause-differs : goal.returns-in-Ok-clause-differs
returns-in-Ok-clause-differs g c = λ one. rw (← c.asks.ensures.passed) (inl (c.in-Ok.command, c.in-Ok.ensures.spelled, c.perform_command.ensures.differs one))

-- they encode the command that is done, or that nobody reads to the end
pub returns-in-Ok-clause-done : goal.returns-in-Ok-clause-done
returns-in-Ok-clause-done g c = λ zero. rw (← c.asks.ensures.passed) (inl (c.in-Ok.command, c.in-Ok.ensures.spelled, c.perform_command.ensures.done zero))

-- they give none, and ask for help or the version
pub returns-in-Err-Asked-clause-done : goal.returns-in-Err-Asked-clause-done
returns-in-Err-Asked-clause-done g c = λ done.
    let why = subst (IsAskedAmong (fault_of line (map g.S.AsStr.text c.args.words.now))) c.in-Err-Asked.field-0-is c.in-Err-Asked.ensures.asked in
    inr (record { kind = kind_of c.in-Err-Asked.help; among = why.0; asked = why.1 })

pub returns-in-Err-Asked-clause-differs : goal.returns-in-Err-Asked-clause-differs
returns-in-Err-Asked-clause-differs g c = λ one.
    let none : IsUsage c.args.now (map g.S.AsStr.text c.args.words.now) = search rules in
    inr none
