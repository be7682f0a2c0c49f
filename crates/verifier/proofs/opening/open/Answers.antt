use Rattle.std.proofs.Common.{ℕ, List}
use Rattle.std.proofs.lemmas.Result.{IfOk-weaker}
use Rattle.segment_table.specs.Room.{log_of}
use Rattle.version_store.specs.Store.{fields_of}
use Rattle.drive.specs.Opened.{base_of}
use Rattle.image_parts.specs.Image.{Image}
use Rattle.verifier.specs.Grammar.{SpellsDrive}
use Rattle.verifier.specs.Images.{IsImageOf}
use Rattle.verifier.specs.Opened.{IsOpenedOf, IsReadOf, IsToldBy, TellsBase, begins_with}
use Rattle.verifier.proofs.opening.open.Goals as goal

-- what has the image's parts begins as they tell
pub returns-clause-base : goal.returns-clause-base
returns-clause-base c =
    IfOk-weaker c.into_drive.result (λ d. IsOpenedOf c.args.image d)
    (λ d. (bytes : List ℕ) (parts : Image) → SpellsDrive bytes parts → IsImageOf parts c.args.image → IsToldBy parts (base_of (fields_of log_of d.store) d.timeline d.next d.audit))
    (λ d is bytes parts spells told. c.an_opened_drive_begins_as_its_image_tells.ensures bytes parts c.args.image d spells told c.into_drive.ensures.can is) c.into_drive.ensures.opened

pub returns-clause-promise : goal.returns-clause-promise
returns-clause-promise c =
    IfOk-weaker c.into_drive.result
    (λ d. (bytes : List ℕ) (parts : Image) → SpellsDrive bytes parts → IsImageOf parts c.args.image → IsToldBy parts (base_of (fields_of log_of d.store) d.timeline d.next d.audit))
    (λ d. (bytes : List ℕ) → IsReadOf bytes c.args.image → TellsBase bytes (begins_with d))
    (λ d begins bytes is. record { parts = is.parts; spelled = is.spelled; told = begins bytes is.parts is.spelled is.told }) (returns-clause-base c)
