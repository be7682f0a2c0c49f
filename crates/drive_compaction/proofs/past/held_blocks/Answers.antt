use Rattle.std.proofs.Common.{◌≡◌, ◌+◌, ap, arith}
use Rattle.segment_table.specs.Table.{Table}
use Rattle.segment_table.specs.Counts.{held_count}
use Rattle.segment_copier.proofs.FrameCounts.{few_held}
use Rattle.drive_compaction.proofs.Summing.{sum_more}
use Rattle.drive_compaction.proofs.past.held_blocks.Goals as goal

pub loop-frame-preserved : goal.loop-frame-preserved
loop-frame-preserved g c =
    let t : Table = c.args.drive.now.store.table in
    let few = few_held t c.loop-frame.frame in
    let more = sum_more (held_count t) 0 c.loop-frame.frame in
    let here = (let e : 0 + c.loop-frame.frame ≡ c.loop-frame.frame = omega arith in ap (held_count t) e) in
    record {
      few = omega (arith, c.loop-frame.invariant.few, few, c.held_count.ensures);
      sum = omega (arith, c.loop-frame.invariant.sum, more, here, c.held_count.ensures);
    }
