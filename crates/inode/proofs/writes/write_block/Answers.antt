use Rattle.std.proofs.Common.{◌∙◌, ap, arith, List, ℕ}
use Rattle.inode.specs.Contents.{contents_of}
use Rattle.inode.specs.Growth.{log_grown, data_block}
use Rattle.inode.proofs.Placing.{covered_block}
use Rattle.inode.proofs.writes.write_block.Goals as goal

pub returns-then-start-offset-clause-log : goal.returns-then-start-offset-clause-log
returns-then-start-offset-clause-log g c =
    c.append_data.ensures.log
    ∙ ap (λ (b : List ℕ). log_grown (g.B.Blocks.log c.args.table.now) (data_block c.args.object b))
    (covered_block (contents_of (g.B.Blocks.log c.args.table.now).held) c.args.inode.now c.args.index c.args.offset c.args.bytes.now c.zero_block-block.result c.place.new.block (omega arith) (omega arith) c.place.ensures.count c.place.ensures.bytes)
