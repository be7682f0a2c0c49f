use Rattle.shown_text.proofs.Plain.{plain_json_stays}
use Rattle.shown_text.proofs.laws.plain_json_stays.Goals as goal

pub returns : goal.returns
returns c = plain_json_stays
