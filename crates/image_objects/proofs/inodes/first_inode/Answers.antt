use Rattle.image_objects.proofs.Beginning.{first_without}
use Rattle.image_objects.proofs.inodes.first_inode.Goals as goal

pub returns-in-None-clause-first : goal.returns-in-None-clause-first
returns-in-None-clause-first g c = first_without (g.U.UsedBlocks.used c.args.used.now) c.args.row.now c.args.entries.now c.blank_before.result c.in-None.is c.blank_before.ensures.first
