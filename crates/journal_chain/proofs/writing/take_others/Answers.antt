use Rattle.std.proofs.Common.{◌≡◌, ◌≤◌, ◌++◌, ◌∷◌, [], ◌+◌, ◌∙◌, ℕ, List, length, map, refl, ap, sym, subst, append_assoc, append-nil, rules}
use Rattle.block_log.specs.Taken.{TakesPlaces}
use Rattle.codec.specs.Entry.{EntryFields, entry_length, entries_length}
use Rattle.journal_chain.specs.Sizes.{breaks}
use Rattle.journal_chain.specs.Writing.{Unfinished}
use Rattle.journal_chain.proofs.Loops.{room_one, room_next, takes_next, takes_none}
use Rattle.journal_chain.proofs.writing.take_others.Goals as goal

pub loop-entry-init : goal.loop-entry-init
loop-entry-init g c =
    let log = g.B.Blocks.log c.args.table.now in
    let filled = entries_length c.args.block.now.entries in
    let gives : c.into_iter-entry-iterator.result ≡ c.args.others = c.into_iter-entry-iterator.ensures.into_iter_gives in
    record {
      unfinished = λ stale before u. subst (λ (l : List EntryFields). Unfinished log.held c.args.block.now.object stale c.args.block.now l) (sym (append-nil before)) u;
      others = search rules;
      named = refl;
      takes = λ after t. subst (λ (l : List EntryFields). TakesPlaces (breaks filled (map entry_length l)) log after) gives t;
      room = subst (λ (l : List EntryFields). breaks filled (map entry_length l) ≤ length log.ahead) (sym gives) c.requires.room;
      whole = gives;
      object = refl;
      least = c.requires.object;
    }

pub take-requires-clause-room : goal.take-requires-clause-room
take-requires-clause-room g c = room_one (entries_length c.loop-entry.block.entries) c.loop-entry.entry-iterator c.next.new.self c.in-Some.entry (g.B.Blocks.log c.loop-entry.table).ahead c.in-Some.ensures.steps c.loop-entry.invariant.room

pub loop-entry-preserved : goal.loop-entry-preserved
loop-entry-preserved g c =
    let now = g.B.Blocks.log c.loop-entry.table in
    let then = g.B.Blocks.log c.take.new.table in
    let so_far = c.loop-entry.yielded in
    let left = c.loop-entry.entry-iterator in
    let rest = c.next.new.self in
    let entry = c.in-Some.entry in
    let block = c.loop-entry.block in
    let filled = entries_length block.entries in
    let later = entries_length c.take.new.block.entries in
    record {
      unfinished = λ stale before u.
          let more : (before ++ so_far) ++ entry ∷ [] ≡ before ++ (so_far ++ entry ∷ []) = append_assoc before so_far (entry ∷ []) in
          let taken : Unfinished now.held block.object stale block (before ++ so_far) =
          subst (λ (o : ℕ). Unfinished now.held o stale block (before ++ so_far)) (sym c.loop-entry.invariant.object) (c.loop-entry.invariant.unfinished stale before u) in
          subst (λ (o : ℕ). Unfinished then.held o stale c.take.new.block (before ++ (so_far ++ entry ∷ []))) c.loop-entry.invariant.object
          (subst (λ (l : List EntryFields). Unfinished then.held block.object stale c.take.new.block l) more (c.take.ensures.unfinished stale (before ++ so_far) taken));
      others = search rules;
      named = c.take.ensures.named ∙ c.loop-entry.invariant.named;
      takes = λ after others. c.loop-entry.invariant.takes after
          (takes_next filled later left rest entry now then after g.met.B.Blocks.places_taken_add_up c.in-Some.ensures.steps c.take.ensures.filled c.take.ensures.takes others);
      room = room_next filled later left rest entry now.ahead then.ahead c.in-Some.ensures.steps c.take.ensures.filled c.take.ensures.takes.ahead c.loop-entry.invariant.room;
      whole = append_assoc so_far (entry ∷ []) rest ∙ ap (λ (l : List EntryFields). so_far ++ l) (sym c.in-Some.ensures.steps) ∙ c.loop-entry.invariant.whole;
      object = search rules;
      least = search rules;
    }

pub returns-clause-takes : goal.returns-clause-takes
returns-clause-takes g c =
    let log = g.B.Blocks.log c.loop-entry.table in
    c.loop-entry.invariant.takes log
    (takes_none (entries_length c.loop-entry.block.entries) c.loop-entry.entry-iterator log c.in-None.ensures.steps.0 (g.met.B.Blocks.no_change_takes_no_place log))

pub returns-clause-unfinished : goal.returns-clause-unfinished
returns-clause-unfinished g c = λ stale before u.
    let all : c.loop-entry.yielded ≡ c.args.others = sym (append-nil c.loop-entry.yielded) ∙ ap (λ (l : List EntryFields). c.loop-entry.yielded ++ l) (sym c.in-None.ensures.steps.0) ∙ c.loop-entry.invariant.whole in
    subst (λ (l : List EntryFields). Unfinished (g.B.Blocks.log c.loop-entry.table).held c.args.block.now.object stale c.loop-entry.block (before ++ l)) all (c.loop-entry.invariant.unfinished stale before u)
