use Rattle.inode.proofs.Bytes.{bytes_of-length, bytes_of-at}
use Rattle.inode.proofs.Joining.{joined_and_cut}
use Rattle.inode.proofs.laws.bytes_are_the_blocks_joined.Goals as goal

pub returns-clause-count : goal.returns-clause-count
returns-clause-count c = bytes_of-length

pub returns-clause-joined : goal.returns-clause-joined
returns-clause-joined c = joined_and_cut

pub returns-clause-at : goal.returns-clause-at
returns-clause-at c = bytes_of-at
