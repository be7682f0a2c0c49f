use Rattle.image_parts.specs.declared.marks.ImageMark.TheVariants.{Third}
use Rattle.image_parts.proofs.CauseLaws.{one_cause}
use Rattle.image_parts.proofs.laws.one_first_cause.Goals as goal

pub returns : goal.returns
returns c = one_cause Third
