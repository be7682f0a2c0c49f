use Rattle.std.proofs.Common.{◌≢◌, IfOk, IfErr, List, subst, sym}
use Rattle.clap.specs.Walk.{Text}
use Rattle.s4serve_command.specs.CommandLine.{AreDoors}
use Rattle.refused_lines.specs.declared.NoCommand.TheVariants.{NoMemory}
use Rattle.s4serve_command.specs.declared.doors.Door.{Door}
use Rattle.s4serve_command.proofs.DoorLemmas.{found_none, found_texts, no_words}
use Rattle.s4serve_command.proofs.doors.doors_in.Goals as goal

pub returns-in-Some-clause-asked : goal.returns-in-Some-clause-asked
returns-in-Some-clause-asked c =
    let r = c.doors_of.result in
    let same = found_texts c.texts_in.result c.in-Some.words _ c.in-Some.is c.texts_in.ensures.same in
    subst (λ (ts : List Text). IfOk r (λ doors. AreDoors ts doors.items)) same c.doors_of.ensures.asked

pub returns-in-Some-clause-usage : goal.returns-in-Some-clause-usage
returns-in-Some-clause-usage c =
    let r = c.doors_of.result in
    let same = found_texts c.texts_in.result c.in-Some.words _ c.in-Some.is c.texts_in.ensures.same in
    subst (λ (ts : List Text). IfErr r (λ e. e ≢ NoMemory → (doors : List Door) → AreDoors ts doors → ⊥)) same c.doors_of.ensures.usage

pub returns-in-None-clause-usage : goal.returns-in-None-clause-usage
returns-in-None-clause-usage c = λ apart doors h.
    no_words doors (subst (λ (ts : List Text). AreDoors ts doors) (sym (found_none c.texts_in.result _ c.in-None.is c.texts_in.ensures.same)) h)
