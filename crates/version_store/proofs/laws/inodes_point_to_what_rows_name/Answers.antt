use Rattle.version_store.proofs.Naming.{pointed_is_named}
use Rattle.version_store.proofs.laws.inodes_point_to_what_rows_name.Goals as goal

pub returns : goal.returns
returns c = pointed_is_named
