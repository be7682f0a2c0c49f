use Rattle.std.proofs.Common.{◌∙◌, ap, arith, rules}
use lib.ListN.{get_elem?}
use Rattle.segment_word.specs.Frames.{View}
use Rattle.segment_word.proofs.BlockWords.{run_fits, run_placed, all_placed}
use Rattle.segment_word.proofs.blocks.read_into.Goals as goal

pub loop-i-preserved : goal.loop-i-preserved
loop-i-preserved c =
    let v = c.loop-i.invariant in
    record {
      seat = search rules;
      view = c.read_words-found.ensures.view ∙ v.view;
      full = run_fits c.loop-i.bytes _ c.read_words-found.result c.loop-i.i _ (omega arith) v.full (omega arith) (omega arith) c.write_u64_into.ensures;
      done = λ j p e is.
          let has = c.read_words-found.ensures.words j p (ap (λ (w : View). get_elem? w.pins j) v.view ∙ e) is in
          run_placed p.contents c.loop-i.bytes _ c.read_words-found.result c.args.block c.loop-i.i _ c.requires.inside.2 (omega arith) v.full (omega arith) has c.write_u64_into.ensures (v.done j p e is);
    }

pub returns-clause-bytes : goal.returns-clause-bytes
returns-clause-bytes c j p e is = let v = c.loop-i.invariant in all_placed p.contents c.loop-i.bytes c.args.block c.loop-i.i (omega arith) v.full (v.done j p e is)
