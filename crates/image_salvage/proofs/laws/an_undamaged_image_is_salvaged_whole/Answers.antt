use Rattle.image_salvage.proofs.Whole.{has_all}
use Rattle.image_salvage.proofs.laws.an_undamaged_image_is_salvaged_whole.Goals as goal

pub returns : goal.returns
returns c = has_all c.a_summary_has_one_encoding.ensures.rules c.a_summary_has_one_encoding.ensures.one c.one_pointer_a_spelling.ensures c.entries_determine_a_run.ensures.done
    c.inodes_used_point_to_what_rows_lead_to.ensures c.only_its_blocks_matter.ensures c.what_has_a_fault_spells_nothing.ensures c.what_has_no_fault_is_an_image.ensures.read
