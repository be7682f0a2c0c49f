use Rattle.std.proofs.Common.{◌≡◌, ◌++◌, ◌∷◌, [], ◌+◌, ◌∙◌, ℕ, List, ap, sym, subst, take, append_assoc, rules}
use Rattle.codec.specs.Entry.{EntryFields, entries_length}
use Rattle.journal_chain.specs.Writing.{InOrder, Unfinished}
use Rattle.journal_chain.proofs.Loops.{next_taken, room_more, takes_more, takes_end}
use Rattle.journal_chain.proofs.writing.take_all.Goals as goal

pub loop-entry-preserved : goal.loop-entry-preserved
loop-entry-preserved g c =
    let now = g.B.Blocks.log c.loop-entry.table in
    let then = g.B.Blocks.log c.take.new.table in
    let entries = c.args.entries.now in
    let i = c.loop-entry.entry-index in
    let entry = c.entry-item.result in
    let block = c.loop-entry.block in
    let filled = entries_length block.entries in
    let later = entries_length c.take.new.block.entries in
    record {
      unfinished = λ stale before u.
          let more : (before ++ take i entries) ++ entry ∷ [] ≡ before ++ take (i + 1) entries =
          append_assoc before (take i entries) (entry ∷ []) ∙ ap (λ (l : List EntryFields). before ++ l) (sym (next_taken entries i entry c.loop-entry-test.true c.entry-item.is)) in
          let taken : Unfinished now.held block.object stale block (before ++ take i entries) =
          subst (λ (o : ℕ). Unfinished now.held o stale block (before ++ take i entries)) (sym c.loop-entry.invariant.object) (c.loop-entry.invariant.unfinished stale before u) in
          subst (λ (o : ℕ). Unfinished then.held o stale c.take.new.block (before ++ take (i + 1) entries)) c.loop-entry.invariant.object
          (subst (λ (l : List EntryFields). Unfinished then.held block.object stale c.take.new.block l) more (c.take.ensures.unfinished stale (before ++ take i entries) taken));
      order = λ all i. subst (λ (n : ℕ). InOrder n then c.take.new.block.previous all) c.loop-entry.invariant.object
          (c.take.ensures.order all (subst (λ (n : ℕ). InOrder n now block.previous all) (sym c.loop-entry.invariant.object) (c.loop-entry.invariant.order all i)));
      others = search rules;
      named = c.take.ensures.named ∙ c.loop-entry.invariant.named;
      takes = λ after rest. c.loop-entry.invariant.takes after
          (takes_more filled later entries i entry now then after g.met.B.Blocks.places_taken_add_up c.loop-entry-test.true c.entry-item.is c.take.ensures.filled c.take.ensures.takes rest);
      room = room_more filled later entries i entry now.ahead then.ahead c.loop-entry-test.true c.entry-item.is c.take.ensures.filled c.take.ensures.takes.ahead c.loop-entry.invariant.room;
      object = search rules;
      least = search rules;
    }

pub returns-clause-takes : goal.returns-clause-takes
returns-clause-takes g c =
    let log = g.B.Blocks.log c.loop-entry.table in
    c.loop-entry.invariant.takes log
    (takes_end (entries_length c.loop-entry.block.entries) c.args.entries.now c.loop-entry.entry-index log c.loop-entry-test.false (g.met.B.Blocks.no_change_takes_no_place log))
