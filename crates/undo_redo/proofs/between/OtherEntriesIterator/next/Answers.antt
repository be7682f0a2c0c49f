use Rattle.std.proofs.Common.{◌≡◌, ◌+◌, ◌∷◌, ◌∙◌, List, length, rules, sym, ap, arith}
use Rattle.codec.specs.Entry.{EntryFields}
use Rattle.undo_redo.specs.private.Further.{entries_from}
use Rattle.undo_redo.proofs.Making.{next_made, next_keep, none_left, none_behind, none_keep, ended}
use Rattle.undo_redo.proofs.between.OtherEntriesIterator.next.Goals as goal

pub returns-then-self-clause-steps : goal.returns-then-self-clause-steps
returns-then-self-clause-steps c =
    let none = ended c.self.inside.before.now c.self.inside.after.now c.self.inside.moment c.self.inside.from c.self.inside.end c.self.invariant c.if-self.true in
    (sym c.self.view_is ∙ none, sym c.self.view_is ∙ none)

pub invariant_of-self : goal.invariant_of-self
invariant_of-self c =
    let none : length c.piece_from-triples.result.0.items ≡ 0 = omega (arith, c.len.ensures.value, c.if-len-eq0.true) in
    record {
      start = c.piece_from-triples.ensures.end;
      stop = c.self.invariant.stop;
      same = c.self.invariant.same;
      rules = none_keep c.self.inside.before.now c.self.inside.after.now c.self.inside.moment c.self.inside.from c.piece_from-triples.result.1 c.piece_from-triples.result.0.items c.piece_from-triples.ensures.piece c.piece_from-triples.ensures.others none;
    }

pub returns-then-len-eq0-clause-steps : goal.returns-then-len-eq0-clause-steps
returns-then-len-eq0-clause-steps c =
    let none : length c.piece_from-triples.result.0.items ≡ 0 = omega (arith, c.len.ensures.value, c.if-len-eq0.true) in (
      sym c.self.view_is ∙ none_left c.self.inside.before.now c.self.inside.after.now c.self.inside.moment c.self.inside.from c.piece_from-triples.result.0.items c.piece_from-triples.ensures.piece none,
      none_behind c.self.inside.before.now c.self.inside.after.now c.self.inside.moment c.self.inside.from c.piece_from-triples.result.1 c.piece_from-triples.result.0.items c.piece_from-triples.ensures.piece c.piece_from-triples.ensures.others none,
    )

pub further_entry-requires : goal.further_entry-requires
further_entry-requires c =
    (next_keep c.self.inside.before.now c.self.inside.after.now c.self.inside.moment c.self.inside.from c.piece_from-triples.result.1 c.piece_from-triples.result.0.items c.piece_from-triples.ensures.piece c.piece_from-triples.ensures.others (λ none. c.if-len-eq0.false (omega (arith, c.len.ensures.value, none))) c.self.invariant.rules).0

pub invariant_of-self-2 : goal.invariant_of-self-2
invariant_of-self-2 c = record {
  start = c.piece_from-triples.ensures.end;
  stop = c.self.invariant.stop;
  same = c.self.invariant.same;
  rules = (next_keep c.self.inside.before.now c.self.inside.after.now c.self.inside.moment c.self.inside.from c.piece_from-triples.result.1 c.piece_from-triples.result.0.items c.piece_from-triples.ensures.piece c.piece_from-triples.ensures.others (λ none. c.if-len-eq0.false (omega (arith, c.len.ensures.value, none))) c.self.invariant.rules).1;
}

pub returns-clause-steps : goal.returns-clause-steps
returns-clause-steps c =
    sym c.self.view_is ∙ next_made c.self.inside.before.now c.self.inside.after.now c.self.inside.moment c.self.inside.from c.piece_from-triples.result.1 c.piece_from-triples.result.0.items c.piece_from-triples.ensures.piece c.piece_from-triples.ensures.others (λ none. c.if-len-eq0.false (omega (arith, c.len.ensures.value, none)))
    ∙ ap (λ (e : EntryFields). e ∷ entries_from c.self.inside.before.now c.self.inside.after.now c.self.inside.moment c.piece_from-triples.result.1) (sym c.further_entry.ensures)

pub returns-clause-goes : goal.returns-clause-goes
returns-clause-goes c =
    let steps : c.args.self.now ≡ c.further_entry.result ∷ entries_from c.self.inside.before.now c.self.inside.after.now c.self.inside.moment c.piece_from-triples.result.1 =
    sym c.self.view_is ∙ next_made c.self.inside.before.now c.self.inside.after.now c.self.inside.moment c.self.inside.from c.piece_from-triples.result.1 c.piece_from-triples.result.0.items c.piece_from-triples.ensures.piece c.piece_from-triples.ensures.others (λ none. c.if-len-eq0.false (omega (arith, c.len.ensures.value, none)))
    ∙ ap (λ (e : EntryFields). e ∷ entries_from c.self.inside.before.now c.self.inside.after.now c.self.inside.moment c.piece_from-triples.result.1) (sym c.further_entry.ensures) in
    let shorter : length c.args.self.now ≡ length (entries_from c.self.inside.before.now c.self.inside.after.now c.self.inside.moment c.piece_from-triples.result.1) + 1 = omega (arith, ap (λ (es : List EntryFields). length es) steps) in
    search rules
