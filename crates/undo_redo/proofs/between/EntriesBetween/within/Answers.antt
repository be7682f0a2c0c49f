use Rattle.std.proofs.Common.{◌∷◌, ◌∙◌, List, take, ap, arith}
use Rattle.s4_types.specs.declared.limits.TheConstants.{ENTRY_TRIPLES}
use Rattle.codec.specs.declared.entries.Triple.{Triple}
use Rattle.codec.specs.Entry.{EntryFields}
use Rattle.undo_redo.proofs.Making.{first_piece, first_found, first_is, others_keep, all_told, same_from, from_range, left_of}
use Rattle.undo_redo.proofs.BetweenLaws.{can_keep}
use Rattle.undo_redo.proofs.between.EntriesBetween.within.Goals as goal

pub piece_from-triples-requires-clause-same : goal.piece_from-triples-requires-clause-same
piece_from-triples-requires-clause-same c = same_from c.args.before.now c.args.after.now c.args.first c.args.end c.requires.same

pub leading_entry-requires : goal.leading_entry-requires
leading_entry-requires c =
    let whole = from_range c.args.before.now c.args.after.now c.args.first c.args.end (omega (arith, c.requires.range.0, c.requires.range.1)) c.requires.same in
    first_piece c.args.before.now c.args.after.now _ (c.piece_from-triples.ensures.piece ∙ ap (λ (ts : List Triple). take ENTRY_TRIPLES ts) whole)

pub unwrap-leading-requires : goal.unwrap-leading-requires
unwrap-leading-requires c = first_found c.args.before.now c.args.after.now c.args.moment c.leading_entry.result c.requires.lead c.leading_entry.ensures

pub new-requires : goal.new-requires
new-requires c =
    let whole = from_range c.args.before.now c.args.after.now c.args.first c.args.end (omega (arith, c.requires.range.0, c.requires.range.1)) c.requires.same in
    record {
      start = c.piece_from-triples.ensures.end;
      stop = c.requires.range.1;
      same = same_from c.args.before.now c.args.after.now c.args.first c.args.end c.requires.same;
      rules = others_keep c.args.before.now c.args.after.now c.args.moment _ (left_of c.args.before.now c.args.after.now c.args.first _ whole c.piece_from-triples.ensures.others) (can_keep c.args.before.now c.args.after.now c.args.moment c.requires.lead);
    }

pub returns : goal.returns
returns c =
    let whole = from_range c.args.before.now c.args.after.now c.args.first c.args.end (omega (arith, c.requires.range.0, c.requires.range.1)) c.requires.same in
    ap (λ (es : List EntryFields). c.unwrap-leading.result ∷ es) c.new.ensures
    ∙ all_told c.args.before.now c.args.after.now c.args.moment c.piece_from-triples.result.1 c.unwrap-leading.result (left_of c.args.before.now c.args.after.now c.args.first _ whole c.piece_from-triples.ensures.others) (first_is c.args.before.now c.args.after.now c.args.moment c.leading_entry.result c.unwrap-leading.result c.leading_entry.ensures c.unwrap-leading.ensures)
