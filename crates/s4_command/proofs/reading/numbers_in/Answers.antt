use Rattle.std.proofs.Common.{List, subst, sym}
use Rattle.std.proofs.lemmas.Result.{IfOk-weaker}
use Rattle.clap.specs.Walk.{Text}
use Rattle.s4_command.specs.CommandLine.{AreNumbers}
use Rattle.s4_command.proofs.Numbers.{found_texts}
use Rattle.s4_command.proofs.reading.numbers_in.Goals as goal

pub returns-in-Some-clause-asked : goal.returns-in-Some-clause-asked
returns-in-Some-clause-asked c =
    let same = found_texts c.texts_in.result c.in-Some.words _ c.in-Some.is c.texts_in.ensures.same in
    IfOk-weaker c.numbers_of.result _ _ (λ numbers asked none. subst (λ (ts : List Text). AreNumbers ts numbers.items) same (asked none)) c.numbers_of.ensures.asked

pub returns-in-Some-clause-usage : goal.returns-in-Some-clause-usage
returns-in-Some-clause-usage c = λ done numbers each kept.
    let same = found_texts c.texts_in.result c.in-Some.words _ c.in-Some.is c.texts_in.ensures.same in
    c.numbers_of.ensures.usage done numbers (subst (λ (ts : List Text). AreNumbers ts numbers) (sym same) each) kept
