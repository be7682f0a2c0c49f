use Rattle.std.proofs.Common.{◌≡◌, ◌++◌, List, length, ap, arith}
use Rattle.codec.specs.declared.entries.Triple.{Triple}
use Rattle.undo_redo.specs.private.Further.{triples_from}
use Rattle.undo_redo.proofs.Making.{piece_more, cut_full, cut_end}
use Rattle.undo_redo.proofs.pieces.piece_from.Goals as goal

pub loop-index-init : goal.loop-index-init
loop-index-init c = record {
  items = ap (λ (ts : List Triple). ts ++ triples_from c.args.from c.args.before.now c.args.after.now) c.new-triples.ensures;
  room = let none : length c.new-triples.result.items ≡ 0 = ap (λ (ts : List Triple). length ts) c.new-triples.ensures in omega (arith, none);
}

pub loop-index-preserved : goal.loop-index-preserved
loop-index-preserved c = record {
  items = piece_more c.args.before.now c.args.after.now c.loop-index.index c.triple_at.result c.loop-index.triples.items c.push_apart.new.triples.items _ (omega (arith, c.loop-index-test.true, c.requires.end)) c.triple_at.ensures c.push_apart.ensures.items c.loop-index.invariant.items;
  room = omega (arith, c.push_apart.ensures.len);
}

pub returns-then-len-ge-ENTRY_TRIPLES-clause-piece : goal.returns-then-len-ge-ENTRY_TRIPLES-clause-piece
returns-then-len-ge-ENTRY_TRIPLES-clause-piece c = (cut_full c.loop-index.triples.items (triples_from c.loop-index.index c.args.before.now c.args.after.now) _ c.loop-index.invariant.items c.loop-index.invariant.room (omega arith)).front

pub returns-then-len-ge-ENTRY_TRIPLES-clause-others : goal.returns-then-len-ge-ENTRY_TRIPLES-clause-others
returns-then-len-ge-ENTRY_TRIPLES-clause-others c = (cut_full c.loop-index.triples.items (triples_from c.loop-index.index c.args.before.now c.args.after.now) _ c.loop-index.invariant.items c.loop-index.invariant.room (omega arith)).back

pub returns-clause-piece : goal.returns-clause-piece
returns-clause-piece c = (cut_end c.args.before.now c.args.after.now c.loop-index.index c.args.end c.loop-index.triples.items _ c.loop-index.invariant.items c.loop-index.invariant.room c.requires.same c.loop-index-test.false).front

pub returns-clause-others : goal.returns-clause-others
returns-clause-others c = (cut_end c.args.before.now c.args.after.now c.loop-index.index c.args.end c.loop-index.triples.items _ c.loop-index.invariant.items c.loop-index.invariant.room c.requires.same c.loop-index-test.false).back
