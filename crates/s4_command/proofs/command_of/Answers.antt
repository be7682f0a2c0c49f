use Rattle.std.proofs.Common.{◌≡◌, ◌≢◌, IfOk, IfErr, Option, List, map, true, sym, subst}
use Rattle.std.proofs.lemmas.Result.{IfErr-weaker}
use Rattle.clap.specs.Simple.{App, subcommand_of}
use Rattle.clap.specs.Takes.{takes}
use Rattle.clap.specs.Walk.{Row, Text}
use Rattle.s4d_command.proofs.Parsed.{no_fault, same_fault, under_premise}
use Rattle.s4_command.specs.CommandLine.{line, Spells, SpellsNone}
use Rattle.refused_lines.specs.declared.NoCommand.TheVariants.{NoMemory}
use Rattle.refused_lines.proofs.RefusedLines.{among_own, among_refused}
use Rattle.s4_command.proofs.Simple.{is_simple_and_free_line, same_subcommand}
use Rattle.s4_command.proofs.command_of.Goals as goal

pub returns-in-Ok-clause-spelled : goal.returns-in-Ok-clause-spelled
returns-in-Ok-clause-spelled g c =
    let same = same_subcommand _ (map g.S.AsStr.text c.args.words.now) c.in-Ok.matches c.in_ok-parser.ensures c.in-Ok.ensures.matches in
    subst (λ (named : Option (Text × List Row)). IfOk c.command_in.result (Spells c.args.now named)) same c.command_in.ensures.spelled

pub returns-in-Ok-clause-usage : goal.returns-in-Ok-clause-usage
returns-in-Ok-clause-usage g c =
    let words = map g.S.AsStr.text c.args.words.now in
    let same = same_subcommand _ words c.in-Ok.matches c.in_ok-parser.ensures c.in-Ok.ensures.matches in
    under_premise (SpellsNone c.args.now (subcommand_of line words)) (takes line words ≡ true) c.command_in.result (λ e. e ≢ NoMemory)
    (subst (λ (named : Option (Text × List Row)). IfErr c.command_in.result (λ e. e ≢ NoMemory → SpellsNone c.args.now named)) same c.command_in.ensures.usage)

pub returns-in-Err-clause-usage : goal.returns-in-Err-clause-usage
returns-in-Err-clause-usage g c = λ apart taken.
    let words = map g.S.AsStr.text c.args.words.now in
    absurd (apart (c.refused.ensures.memory (c.in-Err.ensures.passes (subst (λ (a : App). takes a words ≡ true) (sym c.in_ok-parser.ensures) taken))))

pub returns-in-Ok-clause-refused : goal.returns-in-Ok-clause-refused
returns-in-Ok-clause-refused g c = λ faulty. absurd (faulty (no_fault line _ (map g.S.AsStr.text c.args.words.now) is_simple_and_free_line c.in_ok-parser.ensures c.in-Ok.ensures.kinds))

pub returns-in-Err-clause-refused : goal.returns-in-Err-clause-refused
returns-in-Err-clause-refused g c = λ _. c.refused.ensures.refused _ (same_fault line _ (map g.S.AsStr.text c.args.words.now) c.in-Err.error is_simple_and_free_line c.in_ok-parser.ensures c.in-Err.ensures.kinds)

pub returns-in-Ok-clause-asked : goal.returns-in-Ok-clause-asked
returns-in-Ok-clause-asked g c = IfErr-weaker c.command_in.result _ _ (among_own _) c.command_in.ensures.own

pub returns-in-Err-clause-asked : goal.returns-in-Err-clause-asked
returns-in-Err-clause-asked g c = among_refused _ _ (c.refused.ensures.refused _ (same_fault line _ (map g.S.AsStr.text c.args.words.now) c.in-Err.error is_simple_and_free_line c.in_ok-parser.ensures c.in-Err.ensures.kinds))
