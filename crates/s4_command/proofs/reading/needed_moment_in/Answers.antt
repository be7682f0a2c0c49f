use Rattle.std.proofs.Common.{Option, Some, subst}
use Rattle.clap.specs.Walk.{Text}
use Rattle.s4_command.specs.CommandLine.{IsMomentAt}
use Rattle.s4_command.proofs.reading.needed_moment_in.Goals as goal

pub returns-in-Some-clause-usage : goal.returns-in-Some-clause-usage
returns-in-Some-clause-usage c = λ moment asked kept. c.moment_in.ensures.usage (Some moment) asked kept

pub returns-in-None-clause-usage : goal.returns-in-None-clause-usage
returns-in-None-clause-usage c = λ moment asked kept.
    let absent = c.in-None.ensures.asked (c.moment_in.ensures.usage (Some moment) asked kept) in
    absurd (subst (λ (text : Option Text). IsMomentAt c.args.now text moment) absent asked)
