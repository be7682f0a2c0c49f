use Rattle.std.proofs.Common.{arith}
use Rattle.s4serve_command.proofs.CreationLemmas.{same_duration}
use Rattle.s4serve_command.proofs.creating.creation_of.Goals as goal

pub returns-in_default-duration_of-clause-usage : goal.returns-in_default-duration_of-clause-usage
returns-in_default-duration_of-clause-usage c = λ creation h. c.in_default-duration_of.ensures.none creation.keep h.window

pub returns-then-micros-eq0-clause-usage : goal.returns-then-micros-eq0-clause-usage
returns-then-micros-eq0-clause-usage c = λ creation h.
    let same = same_duration c.args.keep.now creation.keep c.in-Some-duration_of.micros h.window c.in-Some-duration_of.ensures.some in
    omega (arith, same, c.if-micros-eq0.true, h.some)
