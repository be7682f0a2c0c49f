use Rattle.inode.proofs.Touching.{touched_by_bytes}
use Rattle.inode.proofs.laws.touched_blocks_have_a_byte.Goals as goal

pub returns : goal.returns
returns c = touched_by_bytes
