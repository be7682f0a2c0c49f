use Rattle.image_parts.proofs.HeaderLaws.{one_mark}
use Rattle.image_parts.proofs.laws.one_mark_a_header.Goals as goal

pub returns : goal.returns
returns c = one_mark
