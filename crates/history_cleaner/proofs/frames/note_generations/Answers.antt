use Rattle.std.proofs.Common.{◌≡◌, ◌<◌, length, ap, ◌∙◌, arith}
use Rattle.drive.specs.Fields.{DriveFields}
use Rattle.history_cleaner.proofs.Rising.{generation_at, noted_more, noted_count}
use Rattle.history_cleaner.proofs.frames.note_generations.Goals as goal

pub push-requires : goal.push-requires
push-requires g c =
    let below : c.loop-frame.frame < c.frame_count-frame-end.result = c.loop-frame-test.true in
    let noted : length c.loop-frame.noted.items ≡ c.loop-frame.frame = noted_count c.args.drive.now.store.table.seat.frames c.loop-frame.frame c.loop-frame.noted.items c.loop-frame.invariant.noted in
    omega (arith, below, noted, c.frame_count-frame-end.ensures, c.rules.ensures.frames.sizes.0)

pub loop-frame-preserved : goal.loop-frame-preserved
loop-frame-preserved g c =
    let frames = c.args.drive.now.store.table.seat.frames in
    let read : c.generation_of.result ≡ generation_at frames c.loop-frame.frame = c.generation_of.ensures.generation ∙ ap (λ (d : DriveFields). generation_at d.store.table.seat.frames c.loop-frame.frame) c.loop-frame.invariant.same in
    record {
      noted = noted_more frames c.loop-frame.frame c.generation_of.result c.loop-frame.noted.items c.push.new.self.items c.loop-frame.invariant.noted c.push.ensures.items read;
      same = c.generation_of.ensures.same ∙ c.loop-frame.invariant.same;
    }
