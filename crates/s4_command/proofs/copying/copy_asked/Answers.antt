use Rattle.std.proofs.Common.{refl}
use Rattle.clap.specs.Walk.{rows_of}
use Rattle.clap.specs.Matches.{found_of}
use Rattle.s4_command.proofs.CopyNamed.{is_copy}
use Rattle.s4_command.proofs.copying.copy_asked.Goals as goal

pub returns-in-Some-clause-usage : goal.returns-in-Some-clause-usage
returns-in-Some-clause-usage c = λ apart command spells. is_copy c.args.now (rows_of (found_of c.args.found.now)) ⊥
    (λ copy asked.
    let image = c.needed_text_in-image.ensures.usage copy.image.now asked.image refl in
    let path = c.needed_text_in-copy.ensures.usage copy.copy.now asked.copy_is image in
    let frames = c.number_in-frames.ensures.usage copy.frames asked.frames path in
    let since = c.moment_in-created_since.ensures.usage copy.created_since asked.created_since frames in
    let without = c.in_ok-without.ensures.usage refl copy.without.items asked.without since in
    absurd cc)
    command spells
