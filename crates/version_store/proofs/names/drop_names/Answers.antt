use Rattle.std.proofs.Common.{arith}
use Rattle.version_store.proofs.Counted.{all_held}
use Rattle.version_store.proofs.names.drop_names.Goals as goal

pub loop-pointer-init : goal.loop-pointer-init
loop-pointer-init g c = record {
  named = λ q. omega arith;
  held = all_held (g.B.Blocks.log c.args.table.now) c.names.ensures;
  takes = g.met.B.Blocks.no_change_takes_no_place (g.B.Blocks.log c.args.table.now);
}
