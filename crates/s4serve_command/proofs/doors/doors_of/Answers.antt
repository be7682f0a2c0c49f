use Rattle.std.proofs.Common.{◌≡◌, ◌≢◌, ◌∙◌, ◌+◌, ◌≤◌, List, [], ◌∷◌, ◌++◌, length, take, subst, sym, arith, rules}
use Rattle.std.specs.List.{AllZip}
use Rattle.std.proofs.lemmas.Bool.{eqb-false, eqb-true}
use Rattle.std.proofs.lemmas.List.{take_all}
use Rattle.std.specs.Borrow.{Bor}
use Rattle.clap.specs.Walk.{Text, texts}
use Rattle.s4serve_command.specs.CommandLine.{AreApart, IsDoor, IsNoneOf, folders_of}
use Rattle.s4serve_command.specs.declared.doors.Door.{Door}
use Rattle.s4serve_command.proofs.DoorLemmas.{as_many, door_twice, doors_more, folders_more, no_doors}
use Rattle.s4serve_command.proofs.doors.doors_of.Goals as goal

pub returns-then-is_empty-clause-usage : goal.returns-then-is_empty-clause-usage
returns-then-is_empty-clause-usage c = λ u doors h.
    let same : length doors ≡ length c.args.words.now = as_many c.args.words.now doors h.each in
    let some : 1 ≤ length doors = h.some in
    let none : length c.args.words.now ≡ 0 = eqb-true (length c.args.words.now) 0 (sym c.is_empty.ensures ∙ c.if-is_empty.true) in
    absurd (omega arith)

pub returns-then-words-gt-MOST_DOORS-clause-usage : goal.returns-then-words-gt-MOST_DOORS-clause-usage
returns-then-words-gt-MOST_DOORS-clause-usage c = λ u doors h.
    let same : length doors ≡ length c.args.words.now = as_many c.args.words.now doors h.each in
    omega (arith, same, h.few, c.if-words-gt-MOST_DOORS.true)

pub returns-then-has_folder-clause-usage : goal.returns-then-has_folder-clause-usage
returns-then-has_folder-clause-usage c = λ u doors h.
    door_twice c.args.words.now c.loop-word.word-index _ c.loop-word.doors.items c.in-Some.door c.loop-word-test.true c.loop-word.invariant.each c.in-Some.ensures.some
    (λ none. c.has_folder.ensures.yes c.if-has_folder.true
    (subst (λ (ds : List Door). IsNoneOf (folders_of ds) c.in-Some.door.folder.now) (sym c.as_slice.ensures.value) none))
    doors h

pub returns-clause-asked : goal.returns-clause-asked
returns-clause-asked c =
    let whole : take c.loop-word.word-index c.args.words.now ≡ c.args.words.now
    = take_all c.loop-word.word-index c.args.words.now (omega arith) in
    let each : AllZip IsDoor (texts c.args.words.now) c.loop-word.doors.items
    = subst (λ (ws : List (Bor Text)). AllZip IsDoor (texts ws) c.loop-word.doors.items) whole c.loop-word.invariant.each in
    let same : length c.loop-word.doors.items ≡ length c.args.words.now = as_many c.args.words.now c.loop-word.doors.items each in
    let some : length c.args.words.now ≢ 0 = eqb-false (length c.args.words.now) 0 (sym c.is_empty.ensures ∙ c.if-is_empty.false) in
    record { each = each; some = omega arith; few = omega arith; apart = c.loop-word.invariant.apart }

pub returns-in_default-clause-usage : goal.returns-in_default-clause-usage
returns-in_default-clause-usage c = λ u doors h.
    no_doors c.args.words.now c.loop-word.word-index _ c.loop-word-test.true c.in_default.ensures.none doors h

pub loop-word-preserved : goal.loop-word-preserved
loop-word-preserved c =
    let pushed : c.push.new.self.items ≡ c.loop-word.doors.items ++ c.in-Some.door ∷ [] = search rules in
    record {
      each = subst (λ (ds : List Door). AllZip IsDoor (texts (take (c.loop-word.word-index + 1) c.args.words.now)) ds) (sym pushed)
          (doors_more c.args.words.now c.loop-word.word-index _ c.loop-word.doors.items c.in-Some.door c.loop-word-test.true c.loop-word.invariant.each c.in-Some.ensures.some);
      apart = subst (λ (ds : List Door). AreApart (folders_of ds)) (sym pushed)
          (folders_more c.loop-word.doors.items c.in-Some.door c.loop-word.invariant.apart
          (subst (λ (ds : List Door). IsNoneOf (folders_of ds) c.in-Some.door.folder.now) c.as_slice.ensures.value (c.has_folder.ensures.no c.if-has_folder.false)));
    }
