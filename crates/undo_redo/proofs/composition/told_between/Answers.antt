use Rattle.std.proofs.Common.{◌≡◌, ◌∷◌, ◌++◌, [], ◌∙◌, List, sym, ap, append-nil, arith}
use Rattle.codec.specs.Entry.{EntryFields}
use Rattle.undo_redo.specs.Between.{leading_entry, entries_between}
use Rattle.undo_redo.proofs.Making.{checked_some, first_piece, others_keep, all_told, kept_made, one_more, one_fits, same_beyond}
use Rattle.undo_redo.proofs.composition.told_between.Goals as goal

pub leading_entry-requires : goal.leading_entry-requires
leading_entry-requires c = first_piece c.args.before.now c.args.after.now _ c.piece_from-triples.ensures.piece

pub piece_from-triples-requires-clause-same : goal.piece_from-triples-requires-clause-same
piece_from-triples-requires-clause-same c = same_beyond c.args.before.now c.args.after.now

pub new-entry-items-requires : goal.new-entry-items-requires
new-entry-items-requires c = record {
  start = c.piece_from-triples.ensures.end;
  stop = omega arith;
  same = same_beyond c.args.before.now c.args.after.now;
  rules = others_keep c.args.before.now c.args.after.now c.args.moment _ c.piece_from-triples.ensures.others (checked_some (leading_entry c.args.before.now c.args.after.now c.args.moment) c.in-Some.leading c.in-Some.ensures).0;
}

pub loop-entry-init : goal.loop-entry-init
loop-entry-init c =
    let first : c.push.new.self.items ≡ c.in-Some.leading ∷ [] = c.push.ensures.items ∙ ap (λ (es : List EntryFields). es ++ c.in-Some.leading ∷ []) c.new-entries.ensures in
    ap (λ (es : List EntryFields). es ++ c.into_iter-entry-iterator.result) first ∙ ap (λ (es : List EntryFields). c.in-Some.leading ∷ es) (c.into_iter-entry-iterator.ensures.into_iter_gives ∙ c.new-entry-items.ensures)
    ∙ all_told c.args.before.now c.args.after.now c.args.moment c.piece_from-triples.result.1 c.in-Some.leading c.piece_from-triples.ensures.others (checked_some (leading_entry c.args.before.now c.args.after.now c.args.moment) c.in-Some.leading c.in-Some.ensures).1

pub push-requires-in-loop-entry : goal.push-requires-in-loop-entry
push-requires-in-loop-entry c =
    (omega arith, one_fits c.args.before.now c.args.after.now c.args.moment c.loop-entry.entries.items c.loop-entry.entry-iterator c.next.new.self c.in-Some-entry.entry c.loop-entry.invariant c.in-Some-entry.ensures.steps)

pub loop-entry-preserved : goal.loop-entry-preserved
loop-entry-preserved c = one_more c.loop-entry.entries.items c.push-in-loop-entry.new.self.items c.loop-entry.entry-iterator c.next.new.self _ c.in-Some-entry.entry c.loop-entry.invariant c.in-Some-entry.ensures.steps c.push-in-loop-entry.ensures.items

pub returns : goal.returns
returns c =
    let all : c.loop-entry.entries.items ≡ entries_between c.args.before.now c.args.after.now c.args.moment = sym (append-nil c.loop-entry.entries.items) ∙ ap (λ (es : List EntryFields). c.loop-entry.entries.items ++ es) (sym c.in-None.ensures.steps.0) ∙ c.loop-entry.invariant in
    kept_made c.args.before.now c.args.after.now c.args.moment c.in-Some.leading c.loop-entry.entries.items c.in-Some.ensures all
