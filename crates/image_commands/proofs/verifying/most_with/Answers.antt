use Rattle.std.proofs.Common.{rules, ◌++◌, ◌^◌, ◌<◌, length}
use Rattle.s4_types.specs.declared.refusals.Cause.TheVariants.{Header, Length}
use Rattle.image_commands.proofs.verifying.most_with.Goals as goal

pub returns-in-Some-clause-longer : goal.returns-in-Some-clause-longer
returns-in-Some-clause-longer c = λ below rest long. (Length, c.in-Some.ensures.longer below rest long)

pub returns-in_default-clause-longer : goal.returns-in_default-clause-longer
returns-in_default-clause-longer c = λ below rest long.
    let within : c.in-Some.longest < 2 ^ 62 = search rules in
    let longer : c.in-Some.longest < length (c.args.front.now ++ rest) = search rules in
    (Length, c.in-Some.ensures.longer within rest longer)

pub returns-in_default-2-clause-longer : goal.returns-in_default-2-clause-longer
returns-in_default-2-clause-longer c = λ below rest long. (Header, c.in_default.ensures.none rest)
