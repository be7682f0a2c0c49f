use Rattle.std.proofs.Common.{◌∙◌, arith, rules, ap}
use lib.ListN.{get_elem?}
use Rattle.std.proofs.lemmas.Result.{on_ok_weaker}
use Rattle.segment_word.specs.Frames.{View}
use Rattle.segment_word.specs.Layout.{block_bytes}
use Rattle.segment_word.proofs.BlockParts.{more_added, whole_range}
use Rattle.segment_word.proofs.blocks.append_bytes.Goals as goal

pub returns-then-to-from-eq-BLOCK_BYTES-clause-bytes : goal.returns-then-to-from-eq-BLOCK_BYTES-clause-bytes
returns-then-to-from-eq-BLOCK_BYTES-clause-bytes c = on_ok_weaker c.append_block.result
    (λ grows i p e is. whole_range (block_bytes p.contents c.args.block) c.args.into.now.items _ c.args.from c.args.to c.requires.range.1 (omega (arith, c.if-to-from-eq-BLOCK_BYTES.true)) (grows i p e is)) c.append_block.ensures.bytes

pub loop-at-preserved : goal.loop-at-preserved
loop-at-preserved c =
    let v = c.loop-at.invariant in
    let low = v.low in
    let later = c.in_ok-at.ensures.later in
    let within = c.in_ok-at.ensures.within in
    record {
      seat = search rules;
      view = c.append_next.ensures.view ∙ v.view;
      low = omega (arith, low, later);
      high = within;
      added = omega (arith, v.added, c.in_ok-at.ensures.added, low, later);
      done = λ i p e is. more_added (block_bytes p.contents c.args.block) c.args.into.now.items c.loop-at.into.items _ c.args.from c.loop-at.at _ low (omega (arith, later)) (v.done i p e is)
          (c.in_ok-at.ensures.bytes i p (ap (λ (w : View). get_elem? w.pins i) v.view ∙ e) is);
    }
