use Rattle.verifier.proofs.OpenedSaved.{spells_named}
use Rattle.verifier.proofs.opening_laws.an_image_spells_the_drive_opened_from_it.Goals as goal

pub returns : goal.returns
returns c = spells_named
