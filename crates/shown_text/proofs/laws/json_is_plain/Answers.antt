use Rattle.shown_text.proofs.Plain.{json_is_plain}
use Rattle.shown_text.proofs.laws.json_is_plain.Goals as goal

pub returns : goal.returns
returns c = json_is_plain
