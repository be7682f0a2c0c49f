use Rattle.s4_images.specs.declared.commands.Verdict.TheVariants.{Fine}
use Rattle.s4.proofs.Unread.{found_or_unread}
use Rattle.s4.proofs.performing.show_over.Goals as goal

pub returns-clause-done : goal.returns-clause-done
returns-clause-done g c = λ zero.
    found_or_unread c.show_image.result _ Fine (g.W.ProgramOutput.is_gone c.show_image.new.writer) (g.F.Files.contents c.args.files.now) c.show_image.ensures.shows (c.printed.ensures.done zero)
