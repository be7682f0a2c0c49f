use Rattle.shown_text.proofs.Plain.{lines_are_plain}
use Rattle.shown_text.proofs.laws.lines_are_plain.Goals as goal

pub returns : goal.returns
returns c = lines_are_plain
