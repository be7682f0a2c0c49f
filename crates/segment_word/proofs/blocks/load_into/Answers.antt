use Rattle.std.proofs.Common.{◌∙◌, ◌*◌, List, ℕ, subst, arith, rules}
use Rattle.segment_word.specs.Frames.{View}
use Rattle.segment_word.specs.Layout.{frame_at}
use Rattle.segment_word.specs.private.Pins.{HasWords}
use Rattle.segment_word.proofs.BlockWords.{run_fits, run_placed, all_placed}
use Rattle.segment_word.proofs.blocks.load_into.Goals as goal

pub loop-i-preserved : goal.loop-i-preserved
loop-i-preserved c =
    let v = c.loop-i.invariant in
    let contents : List ℕ = (frame_at c.args.seat.now.me.0.frames c.args.frame).contents in
    let has = subst (λ (w : View). HasWords (frame_at w.frames c.args.frame).contents c.args.block (8 * c.loop-i.i) c.load_words-found.result) v.view c.load_words-found.ensures.words in
    record {
      seat = search rules;
      view = c.load_words-found.ensures.view ∙ v.view;
      full = run_fits c.loop-i.bytes _ c.load_words-found.result c.loop-i.i _ (omega arith) v.full (omega arith) (omega arith) c.write_u64_into.ensures;
      done = run_placed contents c.loop-i.bytes _ c.load_words-found.result c.args.block c.loop-i.i _ c.requires.inside.1 (omega arith) v.full (omega arith) has c.write_u64_into.ensures v.done;
    }

pub returns-clause-bytes : goal.returns-clause-bytes
returns-clause-bytes c = let v = c.loop-i.invariant in all_placed (frame_at c.args.seat.now.me.0.frames c.args.frame).contents c.loop-i.bytes c.args.block c.loop-i.i (omega arith) v.full v.done
