use Rattle.time_read.proofs.Reading.{few_in_head}
use Rattle.time_read.proofs.inodes.entries.Goals as goal

pub of-chain-requires-clause-one_block : goal.of-chain-requires-clause-one_block
of-chain-requires-clause-one_block g c = few_in_head (g.B.Blocks.log c.args.table.now).held c.args.object c.args.row.now c.packing_keeps_the_rule.ensures.packed c.requires
