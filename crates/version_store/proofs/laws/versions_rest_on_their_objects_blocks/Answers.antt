use Rattle.version_store.proofs.Frames.{stays_object, inode_in_stays, version_in_stays}
use Rattle.version_store.proofs.laws.versions_rest_on_their_objects_blocks.Goals as goal

pub returns-clause-object : goal.returns-clause-object
returns-clause-object c = λ held later o row latest stays object.
    stays_object c.a_row_is_its_own_blocks.ensures.row c.a_row_is_its_own_blocks.ensures.inode c.a_row_is_by_later_moments.ensures.journal c.only_its_blocks_matter.ensures o held later row latest stays object

pub returns-clause-version : goal.returns-clause-version
returns-clause-version c = λ s later o t store rows stays.
    (inode_in_stays c.a_row_is_its_own_blocks.ensures.inode s later o t rows stays, version_in_stays c.a_row_is_its_own_blocks.ensures.inode c.only_its_blocks_matter.ensures s later o t store rows stays)
