use Rattle.row_changes.proofs.Fresh.{fresh_stands, fresh_is_by, fresh_inode}
use Rattle.row_changes.proofs.laws.a_fresh_row_stands.Goals as goal

pub returns : goal.returns
returns c = record {
  row = fresh_stands c.an_empty_chain_is_held.ensures;
  latest = fresh_is_by;
  inode = fresh_inode;
}
