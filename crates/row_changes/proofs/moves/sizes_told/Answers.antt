use Rattle.std.proofs.Common.{arith}
use Rattle.time_read.specs.Rows.{entries_of}
use Rattle.row_changes.proofs.MovedBlocks.{few_sizes}
use Rattle.row_changes.proofs.moves.sizes_told.Goals as goal

pub push-requires : goal.push-requires
push-requires g c =
    let told = entries_of (g.B.Blocks.log c.args.table.now).held c.args.object c.args.row.now in
    (omega arith, few_sizes _ _ c.in-Some.entry told c.loop-entry.sizes.items c.in-Some.ensures.gives c.loop-entry.invariant.whole (c.chains_are_short.ensures.entries told c.requires.chain.limit))
