use Rattle.migration.proofs.Then.{Laws}
use Rattle.migration.proofs.CopiedImages.{copies, no_more, source_of}
use Rattle.migration.proofs.Left.{source_left}
use Rattle.migration.proofs.copy_laws.what_was_laid_out_is_a_copy.Goals as goal

pub returns : goal.returns
returns c =
    let laws : Laws = record {
      saved = c.a_saved_row_tells_the_same.ensures;
      stands = c.a_row_that_is_held_stands.ensures;
      written = c.an_object_of_a_version_can_be_written.ensures;
      matter = c.only_its_blocks_matter.ensures;
      moments = c.mapped_entries_stay_in_order.ensures.old;
    } in
    record {
      copies = copies laws;
      fits = no_more c.images_with_a_mark.ensures.read c.one_image_is_read.ensures;
      source = λ asked bytes was image read of. source_left asked was image (source_of bytes was image read of);
    }
