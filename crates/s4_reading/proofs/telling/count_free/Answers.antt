use Rattle.std.proofs.Common.{◌≡◌, ◌<◌, ◌∙◌, ℕ, List, length, ap, arith}
use Rattle.segment_word.specs.Frames.{Frame}
use Rattle.segment_word.specs.Layout.{frame_at}
use Rattle.segment_table.specs.Room.{can_open}
use Rattle.drive.specs.Fields.{DriveFields}
use Rattle.s4_reading.specs.Telling.{is_retired}
use Rattle.s4_reading.proofs.Rows.{at_most_one, frame_counted}
use Rattle.s4_reading.proofs.telling.count_free.Goals as goal

pub loop-frame-preserved : goal.loop-frame-preserved
loop-frame-preserved g c =
    let frames : List Frame = c.args.drive.now.store.table.seat.frames in
    let f : ℕ = c.loop-frame.frame in
    let before = c.loop-frame.invariant in
    let inside : f < length frames = omega (arith, c.loop-frame-test.true, c.requires.all) in
    let opens : c.can_open_now.result ≡ can_open (frame_at frames f) =
    c.can_open_now.ensures.can ∙ ap (λ (d : DriveFields). can_open (frame_at d.store.table.seat.frames f)) before.same in
    let same = c.can_open_now.ensures.same ∙ before.same in
    let retires : c.is_retired_now.result ≡ is_retired (frame_at frames f) =
    c.is_retired_now.ensures.retired ∙ ap (λ (d : DriveFields). is_retired (frame_at d.store.table.seat.frames f)) same in
    record {
      same = c.is_retired_now.ensures.same ∙ same;
      few = omega (arith, before.few, at_most_one c.can_open_now.result c.one_if-free.result c.one_if-free.ensures);
      few_retired = omega (arith, before.few_retired, at_most_one c.is_retired_now.result c.one_if-retired.result c.one_if-retired.ensures);
      free = frame_counted can_open frames f c.loop-frame.free c.can_open_now.result c.one_if-free.result inside before.free opens c.one_if-free.ensures;
      retired = frame_counted is_retired frames f c.loop-frame.retired c.is_retired_now.result c.one_if-retired.result inside before.retired retires c.one_if-retired.ensures;
    }
