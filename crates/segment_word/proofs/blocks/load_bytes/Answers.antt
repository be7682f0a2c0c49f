use Rattle.std.proofs.Common.{List, ℕ, ◌∙◌, ◌-◌, ◌++◌, take, drop, arith, rules, ap}
use Rattle.std.proofs.lemmas.Result.{on_ok_weaker}
use Rattle.segment_word.specs.Frames.{View}
use Rattle.segment_word.specs.Layout.{frame_at, block_bytes}
use Rattle.segment_word.proofs.BlockParts.{more_added, whole_range}
use Rattle.segment_word.proofs.blocks.load_bytes.Goals as goal

pub returns-then-to-from-eq-BLOCK_BYTES-clause-bytes : goal.returns-then-to-from-eq-BLOCK_BYTES-clause-bytes
returns-then-to-from-eq-BLOCK_BYTES-clause-bytes c =
    let contents : List ℕ = (frame_at c.args.seat.now.me.0.frames c.args.frame).contents in
    on_ok_weaker c.load_whole.result (whole_range (block_bytes contents c.args.block) c.args.into.now.items _ c.args.from c.args.to c.requires.range.1 (omega (arith, c.if-to-from-eq-BLOCK_BYTES.true))) c.load_whole.ensures.bytes

pub loop-next-preserved : goal.loop-next-preserved
loop-next-preserved c =
    let v = c.loop-next.invariant in
    let low = v.low in
    let later = c.in_ok-next.ensures.later in
    let within = c.in_ok-next.ensures.within in
    record {
      seat = search rules;
      view = c.load_next.ensures.view ∙ v.view;
      low = omega (arith, low, later);
      high = within;
      added = omega (arith, v.added, c.in_ok-next.ensures.added, low, later);
      done = more_added (block_bytes (frame_at c.args.seat.now.me.0.frames c.args.frame).contents c.args.block) c.args.into.now.items c.loop-next.into.items _ c.args.from c.loop-next.next _ low (omega (arith, later)) v.done
          (c.in_ok-next.ensures.bytes
          ∙ ap (λ (w : View). c.loop-next.into.items ++ take (c.in_ok-next.next - c.loop-next.next) (drop c.loop-next.next (block_bytes (frame_at w.frames c.args.frame).contents c.args.block))) v.view);
    }
