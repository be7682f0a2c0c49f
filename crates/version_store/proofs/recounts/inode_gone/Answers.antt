use Rattle.version_store.proofs.Naming.{gone_has}
use Rattle.version_store.proofs.recounts.inode_gone.Goals as goal

pub read_checkpoint-requires : goal.read_checkpoint-requires
read_checkpoint-requires g c = record {
  held = gone_has c.a_checkpoint_is_in_its_blocks.ensures.held (g.B.Blocks.log c.args.table.now).held c.args.object c.args.row.now c.args.row.now.sides c.args.row.now.checkpoint c.in_ok-gone.gone c.requires.sides
      c.in_ok-gone.ensures.gone;
}
