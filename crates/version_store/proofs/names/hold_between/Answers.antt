use Rattle.std.proofs.Common.{arith, ◌≡◌, ◌∷◌, ◌++◌, [], List, Option, length, drop, sym, ap, subst, ◌∙◌, append_assoc, append-nil}
use Rattle.std.specs.List.{All}
use Rattle.std.proofs.lemmas.List.{length-append}
use Rattle.std.proofs.lemmas.List.Concat.{flat_map-append}
use Rattle.s4_types.specs.Pointer.{Place}
use Rattle.lemmas.proofs.List.{all_front, all_back}
use Rattle.codec.specs.Entry.{EntryFields}
use Rattle.codec.specs.declared.entries.Triple.{Triple}
use Rattle.version_store.specs.Store.{sides_of, sides_told}
use Rattle.version_store.specs.private.Names.{IsOfData, Gives}
use Rattle.version_store.proofs.Named.{times_few, gives_join}
use Rattle.version_store.proofs.Gathering.{none_given}
use Rattle.version_store.proofs.names.hold_between.Goals as goal

abbrev one : EntryFields → List (Option Place)
one e = sides_of e.triples

-- the pointers of entries, one entry more
told_more : (entries : List EntryFields) (e : EntryFields) → sides_told (entries ++ e ∷ []) ≡ sides_told entries ++ one e
told_more entries e = flat_map-append one entries (e ∷ []) ∙ ap (λ (xs : List (Option Place)). sides_told entries ++ xs) (append-nil (one e))

pub hold_sides-requires : goal.hold_sides-requires
hold_sides-requires g c =
    let first = c.split_first-others.result.0.now in
    let others = c.split_first-others.result.1 in
    let whole : sides_told c.args.entries.now ≡ one first ++ sides_told others = ap sides_told c.split_first-others.ensures in
    let held = (g.B.Blocks.log c.args.table.now).held in
    record {
      of_data = subst (λ (triples : List Triple). All (IsOfData held) (sides_of triples)) (sym c.triples.ensures.triples)
          (all_front (IsOfData held) (one first) (sides_told others) (subst (All (IsOfData held)) whole c.requires.of_data));
      room = λ q.
          (let room = c.requires.room q in
          let all : length (sides_told c.args.entries.now) ≡ length (one first ++ sides_told others) = ap length whole in
          let joined = length-append (one first) (sides_told others) in
          let same : length (sides_of c.triples.result.now) ≡ length (one first) = ap (λ (triples : List Triple). length (sides_of triples)) c.triples.ensures.triples in
          omega (arith, room, all, joined, same));
    }

pub loop-entry-init : goal.loop-entry-init
loop-entry-init g c = record {
  given = none_given g.met.B.Blocks.no_change_takes_no_place (g.B.Blocks.log c.hold_sides.new.table);
  whole = ap (λ (es : List EntryFields). drop 1 es) c.split_first-others.ensures ∙ sym c.into_iter-entry-iterator.ensures.into_iter_gives;
}

pub hold_sides-requires-in-loop-entry : goal.hold_sides-requires-in-loop-entry
hold_sides-requires-in-loop-entry g c =
    let first = c.split_first-others.result.0.now in
    let others = c.split_first-others.result.1 in
    let so_far = c.loop-entry.yielded in
    let e = c.in-Some.entry in
    let rest = c.next.new.self in
    let start = (g.B.Blocks.log c.args.table.now).held in
    let split : others ≡ so_far ++ (e ∷ rest) = sym (ap (λ (es : List EntryFields). drop 1 es) c.split_first-others.ensures) ∙ c.loop-entry.invariant.whole ∙ ap (λ (es : List EntryFields). so_far ++ es) c.in-Some.ensures.steps in
    let whole : sides_told c.args.entries.now ≡ one first ++ (sides_told so_far ++ (one e ++ sides_told rest)) =
    ap sides_told c.split_first-others.ensures ∙ ap (λ (es : List EntryFields). one first ++ sides_told es) split ∙ ap (λ (xs : List (Option Place)). one first ++ xs) (flat_map-append one so_far (e ∷ rest)) in
    let same : (g.B.Blocks.log c.loop-entry.table).held ≡ start = c.loop-entry.invariant.given.held ∙ c.hold_sides.ensures.held in
    record {
      of_data = subst (λ (triples : List Triple). All (IsOfData (g.B.Blocks.log c.loop-entry.table).held) (sides_of triples)) (sym c.triples-in-loop-entry.ensures.triples)
          (subst (λ (held : Place → _). All (IsOfData held) (one e)) (sym same)
          (all_front (IsOfData start) (one e) (sides_told rest) (all_back (IsOfData start) (sides_told so_far) (one e ++ sides_told rest)
          (all_back (IsOfData start) (one first) (sides_told so_far ++ (one e ++ sides_told rest)) (subst (All (IsOfData start)) whole c.requires.of_data)))));
      room = λ q.
          (let room = c.requires.room q in
          let all : length (sides_told c.args.entries.now) ≡ length (one first ++ (sides_told so_far ++ (one e ++ sides_told rest))) = ap length whole in
          let a = length-append (one first) (sides_told so_far ++ (one e ++ sides_told rest)) in
          let b = length-append (sides_told so_far) (one e ++ sides_told rest) in
          let d = length-append (one e) (sides_told rest) in
          let given = c.loop-entry.invariant.given.named q in
          let begun = c.hold_sides.ensures.named q in
          let few = times_few q (sides_told so_far) in
          let few_first = times_few q (sides_of c.triples.result.now) in
          let first_same : length (sides_of c.triples.result.now) ≡ length (one first) = ap (λ (triples : List Triple). length (sides_of triples)) c.triples.ensures.triples in
          let entry_same : length (sides_of c.triples-in-loop-entry.result.now) ≡ length (one e) = ap (λ (triples : List Triple). length (sides_of triples)) c.triples-in-loop-entry.ensures.triples in
          omega (arith, room, all, a, b, d, given, begun, few, few_first, first_same, entry_same));
    }

pub loop-entry-preserved : goal.loop-entry-preserved
loop-entry-preserved g c =
    let so_far = c.loop-entry.yielded in
    let e = c.in-Some.entry in
    record {
      given = subst (λ (xs : List (Option Place)). Gives (g.B.Blocks.log c.hold_sides.new.table) xs (g.B.Blocks.log c.hold_sides-in-loop-entry.new.table)) (sym (told_more so_far e))
          (gives_join g.met.B.Blocks.places_taken_add_up (g.B.Blocks.log c.hold_sides.new.table) (g.B.Blocks.log c.loop-entry.table) (g.B.Blocks.log c.hold_sides-in-loop-entry.new.table) (sides_told so_far) (one e) c.loop-entry.invariant.given
          (subst (λ (triples : List Triple). Gives (g.B.Blocks.log c.loop-entry.table) (sides_of triples) (g.B.Blocks.log c.hold_sides-in-loop-entry.new.table)) c.triples-in-loop-entry.ensures.triples c.hold_sides-in-loop-entry.ensures));
      whole = c.loop-entry.invariant.whole ∙ ap (λ (es : List EntryFields). so_far ++ es) c.in-Some.ensures.steps ∙ sym (append_assoc so_far (e ∷ []) c.next.new.self);
    }

pub returns : goal.returns
returns g c =
    let first = c.split_first-others.result.0.now in
    let others = c.split_first-others.result.1 in
    let so_far = c.loop-entry.yielded in
    let all : so_far ≡ others = sym (append-nil so_far) ∙ ap (λ (es : List EntryFields). so_far ++ es) (sym c.in-None.ensures.steps.0) ∙ sym c.loop-entry.invariant.whole ∙ ap (λ (es : List EntryFields). drop 1 es) c.split_first-others.ensures in
    let whole : one first ++ sides_told so_far ≡ sides_told c.args.entries.now = ap (λ (es : List EntryFields). one first ++ sides_told es) all ∙ sym (ap sides_told c.split_first-others.ensures) in
    subst (λ (xs : List (Option Place)). Gives (g.B.Blocks.log c.args.table.now) xs (g.B.Blocks.log c.loop-entry.table)) whole
    (gives_join g.met.B.Blocks.places_taken_add_up (g.B.Blocks.log c.args.table.now) (g.B.Blocks.log c.hold_sides.new.table) (g.B.Blocks.log c.loop-entry.table) (one first) (sides_told so_far)
    (subst (λ (triples : List Triple). Gives (g.B.Blocks.log c.args.table.now) (sides_of triples) (g.B.Blocks.log c.hold_sides.new.table)) c.triples.ensures.triples c.hold_sides.ensures) c.loop-entry.invariant.given)
