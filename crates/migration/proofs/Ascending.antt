-- Places that are put where they belong ascend, so none is among them twice.
use Rattle.std.proofs.Common.{◌≡◌, ◌⊎◌, ◌<◌, Bool, true, false, cond, List, [], ◌∷◌, Option, Some, None, inl, inr, refl, sym, ◌∙◌, arith}
use Rattle.std.specs.Prelude.{nat_lt, ◌==◌, ◌&&◌}
use Rattle.std.specs.List.{AllByRecursion}
use Rattle.std.proofs.lemmas.Bool.{cases_Bool, cond-true, cond-false, cond_both, cases_order, eqb-true, eq-eqb, ne_eqb, ltb-true, lt-ltb, or_from, and_left, and_right, and_from, both_ways}
use Rattle.s4_types.specs.Pointer.{Place}
use Rattle.block_log.specs.Log.{same_place}
use Rattle.block_log.proofs.Places.{same_place_back}
use Rattle.checkpoint.specs.Held.{is_one_of}
use Rattle.migration.specs.Places.{Ascend, Before, is_before, put_place, with_places}
use Rattle.migration.specs.private.Copying.{AreApart}

-- the test of two blocks of one frame
abbrev pub in_one_frame : Place → Place → Bool
in_one_frame p q = cond (p.block == q.block) (nat_lt p.generation q.generation) (nat_lt p.block q.block)

in_frame : (p q : Place) → in_one_frame p q ≡ true → (p.block < q.block) ⊎ ((p.block ≡ q.block) × (p.generation < q.generation))
in_frame p q is = elim (cases_Bool (p.block == q.block)) [
  | inl same ↦ inr (eqb-true p.block q.block same, ltb-true p.generation q.generation (sym (cond-true (p.block == q.block) (nat_lt p.generation q.generation) (nat_lt p.block q.block) same) ∙ is))
  | inr other ↦ inl (ltb-true p.block q.block (sym (cond-false (p.block == q.block) (nat_lt p.generation q.generation) (nat_lt p.block q.block) other) ∙ is))
]

before_of : (p q : Place) → is_before p q ≡ true → Before p q
before_of p q is = elim (cases_Bool (p.frame == q.frame)) [
  | inl same ↦ inr (eqb-true p.frame q.frame same, in_frame p q (sym (cond-true (p.frame == q.frame) (in_one_frame p q) (nat_lt p.frame q.frame) same) ∙ is))
  | inr other ↦ inl (ltb-true p.frame q.frame (sym (cond-false (p.frame == q.frame) (in_one_frame p q) (nat_lt p.frame q.frame) other) ∙ is))
]

is_in_frame : (p q : Place) → (p.block < q.block) ⊎ ((p.block ≡ q.block) × (p.generation < q.generation)) → in_one_frame p q ≡ true
is_in_frame p q (inl l) = cond-false (p.block == q.block) (nat_lt p.generation q.generation) (nat_lt p.block q.block) (ne_eqb p.block q.block (λ e. omega (arith, e, l))) ∙ lt-ltb p.block q.block l
is_in_frame p q (inr (e, l)) = cond-true (p.block == q.block) (nat_lt p.generation q.generation) (nat_lt p.block q.block) (eq-eqb p.block q.block e) ∙ lt-ltb p.generation q.generation l

before_is : (p q : Place) → Before p q → is_before p q ≡ true
before_is p q (inl l) = cond-false (p.frame == q.frame) (in_one_frame p q) (nat_lt p.frame q.frame) (ne_eqb p.frame q.frame (λ e. omega (arith, e, l))) ∙ lt-ltb p.frame q.frame l
before_is p q (inr (e, l)) = cond-true (p.frame == q.frame) (in_one_frame p q) (nat_lt p.frame q.frame) (eq-eqb p.frame q.frame e) ∙ is_in_frame p q l

in_turn : (p q r : Place) → Before p q → Before q r → Before p r
in_turn p q r (inl a) (inl b) = inl (omega (arith, a, b))
in_turn p q r (inl a) (inr (e, b)) = inl (omega (arith, a, e))
in_turn p q r (inr (d, a)) (inl b) = inl (omega (arith, d, b))
in_turn p q r (inr (d, inl a)) (inr (e, inl b)) = inr (d ∙ e, inl (omega (arith, a, b)))
in_turn p q r (inr (d, inl a)) (inr (e, inr (f, b))) = inr (d ∙ e, inl (omega (arith, a, f)))
in_turn p q r (inr (d, inr (f, a))) (inr (e, inl b)) = inr (d ∙ e, inl (omega (arith, f, b)))
in_turn p q r (inr (d, inr (f, a))) (inr (e, inr (g, b))) = inr (d ∙ e, inr (f ∙ g, omega (arith, a, b)))

-- a place before another isn't that one
differs : (p q : Place) → Before p q → same_place p q ≡ false
differs p q (inl l) = and_left (p.frame == q.frame) (p.block == q.block && p.generation == q.generation) (ne_eqb p.frame q.frame (λ e. omega (arith, e, l)))
differs p q (inr (d, inl l)) = and_right (p.frame == q.frame) (p.block == q.block && p.generation == q.generation) (and_left (p.block == q.block) (p.generation == q.generation) (ne_eqb p.block q.block (λ e. omega (arith, e, l))))
differs p q (inr (d, inr (f, l))) = and_right (p.frame == q.frame) (p.block == q.block && p.generation == q.generation) (and_right (p.block == q.block) (p.generation == q.generation) (ne_eqb p.generation q.generation (λ e. omega (arith, e, l))))

-- of two places that aren't one, one is before the other
either : (p q : Place) → Before p q ⊎ (Before q p ⊎ (same_place p q ≡ true))
either p q = elim (cases_order p.frame q.frame) [
  | inr (inl l) ↦ inl (inl l)
  | inr (inr l) ↦ inr (inl (inl l))
  | inl d ↦ elim (cases_order p.block q.block) [
    | inr (inl l) ↦ inl (inr (d, inl l))
    | inr (inr l) ↦ inr (inl (inr (sym d, inl l)))
    | inl e ↦ elim (cases_order p.generation q.generation) [
      | inr (inl l) ↦ inl (inr (d, inr (e, l)))
      | inr (inr l) ↦ inr (inl (inr (sym d, inr (sym e, l))))
      | inl f ↦ inr (inr (and_from (p.frame == q.frame) (p.block == q.block && p.generation == q.generation) (eq-eqb p.frame q.frame d) (and_from (p.block == q.block) (p.generation == q.generation) (eq-eqb p.block q.block e) (eq-eqb p.generation q.generation f))))
    ]
  ]
]

otherwise : (p q : Place) → is_before q p ≡ false → same_place q p ≡ false → Before p q
otherwise p q not other = elim (either q p) [
  | inl before ↦ absurd (both_ways (is_before q p) not (before_is q p before))
  | inr (inl before) ↦ before
  | inr (inr same) ↦ absurd (both_ways (same_place q p) other same)
]

all_later : (p q : Place) (places : List Place) → Before p q → AllByRecursion (Before q) places → AllByRecursion (Before p) places
all_later p q [] before all = tt
all_later p q (r ∷ places) before all = (in_turn p q r before all.0, all_later p q places before all.1)

pub all_put : (P : Place → Type 0) (p : Place) (places : List Place) → P p → AllByRecursion P places → AllByRecursion P (put_place p places)
all_put P p [] is all = (is, tt)
all_put P p (q ∷ places) is all =
    cond_both (is_before q p) (q ∷ put_place p places) (cond (same_place q p) (q ∷ places) (p ∷ q ∷ places)) (λ x. AllByRecursion P x)
    (λ before. (all.0, all_put P p places is all.1))
    (λ not. cond_both (same_place q p) (q ∷ places) (p ∷ q ∷ places) (λ x. AllByRecursion P x) (λ same. all) (λ other. (is, all)))

ascend_put : (p : Place) (places : List Place) → Ascend places → Ascend (put_place p places)
ascend_put p [] all = (tt, tt)
ascend_put p (q ∷ places) all =
    cond_both (is_before q p) (q ∷ put_place p places) (cond (same_place q p) (q ∷ places) (p ∷ q ∷ places)) (λ x. Ascend x)
    (λ before. (all_put (Before q) p places (before_of q p before) all.0, ascend_put p places all.1))
    (λ not. cond_both (same_place q p) (q ∷ places) (p ∷ q ∷ places) (λ x. Ascend x) (λ same. all)
    (λ other. let first = otherwise p q not other in ((first, all_later p q places first all.0), all)))

pub ascend_with : (places : List Place) (slots : List (Option Place)) → Ascend places → Ascend (with_places places slots)
ascend_with places [] all = all
ascend_with places (None ∷ slots) all = ascend_with places slots all
ascend_with places (Some p ∷ slots) all = ascend_with (put_place p places) slots (ascend_put p places all)

turned : (p q : Place) → Before p q → same_place q p ≡ false
turned p q before = elim (cases_Bool (same_place q p)) [
  | inl same ↦ absurd (both_ways (same_place p q) (differs p q before) (same_place_back q p same))
  | inr other ↦ other
]

none_of_later : (p : Place) (places : List Place) → AllByRecursion (Before p) places → is_one_of places p ≡ false
none_of_later p [] all = refl
none_of_later p (q ∷ places) all = or_from (same_place q p) (is_one_of places p) (turned p q all.0) (none_of_later p places all.1)

pub apart : (places : List Place) → Ascend places → AreApart places
apart [] all = tt
apart (p ∷ places) all = (none_of_later p places all.0, apart places all.1)
