use Rattle.verifier.proofs.OpenedBase.{begins_as_told}
use Rattle.verifier.proofs.opening_laws.an_opened_drive_begins_as_its_image_tells.Goals as goal

pub returns : goal.returns
returns c =
    begins_as_told c.a_base_is_what_its_objects_stand_for.ensures.versions c.a_base_is_what_its_objects_stand_for.ensures.listed
    c.rows_that_stand_make_a_store.ensures.object c.a_summary_has_one_encoding.ensures.one c.one_pointer_a_spelling.ensures
