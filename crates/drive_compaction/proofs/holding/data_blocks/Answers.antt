use Rattle.std.proofs.Common.{◌≡◌, ◌∙◌, length, ap, arith}
use Rattle.segment_table.specs.Table.{Table}
use Rattle.segment_table.specs.Room.{sum_over}
use Rattle.drive.specs.Fields.{DriveFields}
use Rattle.drive_compaction.specs.Holding.{data_in}
use Rattle.drive_compaction.proofs.Held.{frame_more}
use Rattle.drive_compaction.proofs.holding.data_blocks.Goals as goal

pub loop-frame-preserved : goal.loop-frame-preserved
loop-frame-preserved g c =
    let t : Table = c.args.drive.now.store.table in
    let n = c.loop-frame.frame in
    let found : c.data_in-count.result ≡ data_in t n = c.data_in-count.ensures.data ∙ ap (λ (d : DriveFields). data_in d.store.table n) c.loop-frame.invariant.same in
    record {
      same = c.data_in-count.ensures.same ∙ c.loop-frame.invariant.same;
      few = omega (arith, c.loop-frame.invariant.few, c.data_in-count.ensures.few);
      sum = frame_more t n c.loop-frame.count c.data_in-count.result found c.loop-frame.invariant.sum;
    }

pub returns-clause-data : goal.returns-clause-data
returns-clause-data g c =
    let t : Table = c.args.drive.now.store.table in
    let all : c.loop-frame.frame ≡ length t.seat.frames = omega (arith, c.loop-frame-test.false, c.loop-frame.auto.frame-end, c.frame_count-frame-end.ensures) in
    c.loop-frame.invariant.sum ∙ ap (sum_over (data_in t) 0) all
