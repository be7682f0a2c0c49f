use Rattle.segment_table.proofs.SavedBlocks.{written}
use Rattle.segment_table.proofs.saving.write_blocks.Goals as goal

pub returns : goal.returns
returns c = rw c.copy_from_slice.ensures.after (written 15 c.args.blocks.now c.args.payload.now c.args.summary.now c.told-blocks c.told-payload)
