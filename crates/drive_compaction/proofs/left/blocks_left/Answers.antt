use Rattle.std.proofs.Common.{◌≡◌, ◌∙◌, ◌+◌, length, ap, arith}
use Rattle.segment_table.specs.Table.{Table}
use Rattle.segment_table.specs.Room.{sum_over}
use Rattle.drive.specs.Fields.{DriveFields}
use Rattle.drive_compaction.specs.private.Left.{left_in}
use Rattle.drive_compaction.proofs.LeftAhead.{left_ahead}
use Rattle.drive_compaction.proofs.Summing.{sum_more}
use Rattle.drive_compaction.proofs.left.blocks_left.Goals as goal

pub loop-frame-preserved : goal.loop-frame-preserved
loop-frame-preserved g c =
    let t : Table = c.args.drive.now.store.table in
    let n = c.loop-frame.frame in
    let more = sum_more (left_in t) 0 n in
    let here = (let e : 0 + n ≡ n = omega arith in ap (left_in t) e) in
    let found : c.left_in-left.result ≡ left_in t n = c.left_in-left.ensures.left ∙ ap (λ (d : DriveFields). left_in d.store.table n) c.loop-frame.invariant.same in
    record {
      same = c.left_in-left.ensures.same ∙ c.loop-frame.invariant.same;
      few = omega (arith, c.loop-frame.invariant.few, c.left_in-left.ensures.few);
      sum = omega (arith, c.loop-frame.invariant.sum, more, here, found);
    }

pub returns-clause-left : goal.returns-clause-left
returns-clause-left g c =
    let t : Table = c.args.drive.now.store.table in
    let all : c.loop-frame.frame ≡ length t.seat.frames = omega (arith, c.loop-frame-test.false, c.loop-frame.auto.frame-end, c.frame_count-frame-end.ensures) in
    c.loop-frame.invariant.sum ∙ ap (sum_over (left_in t) 0) all ∙ left_ahead t
