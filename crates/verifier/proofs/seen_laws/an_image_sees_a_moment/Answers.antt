use Rattle.verifier.proofs.SeenImage.{spells_seen}
use Rattle.verifier.proofs.SeenBase.{goes_on_seen}
use Rattle.verifier.proofs.seen_laws.an_image_sees_a_moment.Goals as goal

pub returns-clause-image : goal.returns-clause-image
returns-clause-image c = λ parts moment fits is. spells_seen parts moment fits is

pub returns-clause-goes_on : goal.returns-clause-goes_on
returns-clause-goes_on c = λ parts moment base is told. goes_on_seen c.a_summary_has_one_encoding.ensures.one c.one_pointer_a_spelling.ensures parts moment is base told
