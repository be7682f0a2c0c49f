use Rattle.std.proofs.Common.{◌+◌, ◌<◌, length, refl, ap, ◌∙◌, arith}
use Rattle.std.proofs.lemmas.List.{length-set}
use Rattle.segment_word.specs.Handles.{Drive}
use Rattle.segment_word.specs.Layout.{frame_at, block_bytes}
use Rattle.segment_table.proofs.Clearing.{read_more, read_none}
use Rattle.segment_table.proofs.seals.read_payload.Goals as goal

pub loop-i-init : goal.loop-i-init
loop-i-init c = (refl, omega arith, read_none (frame_at c.args.seat.now.frames c.args.frame).contents)

pub loop-i-preserved : goal.loop-i-preserved
loop-i-preserved c =
    let contents = (frame_at c.args.seat.now.frames c.args.frame).contents in
    let inside : c.loop-i.i < length c.loop-i.payload = omega arith in (
      c.load_into.ensures.same ∙ c.loop-i.invariant.0,
      length-set c.loop-i.payload c.loop-i.i c.load_into.new.bytes ∙ c.loop-i.invariant.1,
      read_more contents c.loop-i.payload c.loop-i.i c.load_into.new.bytes inside c.loop-i.invariant.2
          (c.load_into.ensures.bytes ∙ ap (λ (d : Drive). block_bytes (frame_at d.frames c.args.frame).contents (c.loop-i.i + 1)) c.loop-i.invariant.0),
    )
