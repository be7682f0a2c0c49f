use Rattle.verifier.proofs.SavedTold.{goes_on}
use Rattle.verifier.proofs.opening_laws.what_is_saved_goes_on.Goals as goal

pub returns : goal.returns
returns c =
    goes_on c.what_has_no_fault_is_an_image.ensures.read c.a_summary_has_one_encoding.ensures.one c.one_pointer_a_spelling.ensures c.a_saved_row_tells_the_same.ensures c.only_its_blocks_matter.ensures
