use Rattle.version_store.proofs.Present.{subject_version, subject_there}
use Rattle.version_store.proofs.laws.changes_begin_with_the_present_version.Goals as goal

pub returns-clause-version : goal.returns-clause-version
returns-clause-version c = subject_version c.a_fresh_row_stands.ensures.inode

pub returns-clause-there : goal.returns-clause-there
returns-clause-there c = subject_there c.a_fresh_row_stands.ensures.inode
