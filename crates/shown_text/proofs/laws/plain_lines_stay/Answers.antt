use Rattle.shown_text.proofs.Plain.{plain_lines_stay}
use Rattle.shown_text.proofs.laws.plain_lines_stay.Goals as goal

pub returns : goal.returns
returns c = plain_lines_stay
