-- Places are put where they belong, one after the other.
use Rattle.std.proofs.Common.{◌≡◌, suc, ◌<◌, true, false, cond, List, [], ◌∷◌, ◌++◌, length, get_or, Option, Some, None, inl, inr, refl, sym, ap, subst, ◌∙◌, arith}
use Rattle.std.specs.Prelude.{IfSome}
use Rattle.std.specs.List.{AllByRecursion, insert}
use Rattle.std.proofs.lemmas.Bool.{cases_Bool, cond-true, cond-false, cond_both, or_left, or_right, or_cases}
use Rattle.s4_types.specs.Pointer.{Place}
use Rattle.block_log.specs.Log.{same_place}
use Rattle.checkpoint.specs.Held.{is_one_of}
use Rattle.migration.specs.Places.{is_before, put_place, with_places}
use Rattle.migration.specs.private.Ranks.{rank_in}
use Rattle.migration.proofs.Ascending.{all_put}

rank_after : (p q : Place) (places : List Place) → is_before q p ≡ true → rank_in p (q ∷ places) ≡ suc (rank_in p places)
rank_after p q places is = cond-true (is_before q p) (suc (rank_in p places)) 0 is

rank_here : (p q : Place) (places : List Place) → is_before q p ≡ false → rank_in p (q ∷ places) ≡ 0
rank_here p q places is = cond-false (is_before q p) (suc (rank_in p places)) 0 is

put_after : (p q : Place) (places : List Place) → is_before q p ≡ true → put_place p (q ∷ places) ≡ q ∷ put_place p places
put_after p q places is = cond-true (is_before q p) (q ∷ put_place p places) (cond (same_place q p) (q ∷ places) (p ∷ q ∷ places)) is

put_same : (p q : Place) (places : List Place) → is_before q p ≡ false → same_place q p ≡ true → put_place p (q ∷ places) ≡ q ∷ places
put_same p q places is same = cond-false (is_before q p) (q ∷ put_place p places) (cond (same_place q p) (q ∷ places) (p ∷ q ∷ places)) is ∙ cond-true (same_place q p) (q ∷ places) (p ∷ q ∷ places) same

put_here : (p q : Place) (places : List Place) → is_before q p ≡ false → same_place q p ≡ false → put_place p (q ∷ places) ≡ p ∷ q ∷ places
put_here p q places is other = cond-false (is_before q p) (q ∷ put_place p places) (cond (same_place q p) (q ∷ places) (p ∷ q ∷ places)) is ∙ cond-false (same_place q p) (q ∷ places) (p ∷ q ∷ places) other

pub rank_within : (p : Place) (places : List Place) → rank_in p places < suc (length places)
rank_within p [] = omega arith
rank_within p (q ∷ places) = elim (cases_Bool (is_before q p)) [
  | inl is ↦ (let rank = rank_after p q places is in let rest = rank_within p places in omega (arith, rank, rest))
  | inr not ↦ (let rank = rank_here p q places not in omega (arith, rank))
]

-- a place that is there already
pub put_there : (p : Place) (places : List Place) (d : Place) → rank_in p places < length places → same_place (get_or places (rank_in p places) d) p ≡ true → put_place p places ≡ places
put_there p [] d l same = absurd (omega (arith, l))
put_there p (q ∷ places) d l same = elim (cases_Bool (is_before q p)) [
  | inl is ↦ (let rank = rank_after p q places is in
      let there : same_place (get_or places (rank_in p places) d) p ≡ true = subst (λ n. same_place (get_or (q ∷ places) n d) p ≡ true) rank same in
      put_after p q places is ∙ ap (λ (x : List Place). q ∷ x) (put_there p places d (omega (arith, l, rank)) there))
  | inr not ↦ put_same p q places not (subst (λ n. same_place (get_or (q ∷ places) n d) p ≡ true) (rank_here p q places not) same)
]

-- and one that isn't
pub put_new : (p : Place) (places : List Place) (d : Place) → (rank_in p places < length places → same_place (get_or places (rank_in p places) d) p ≡ false) → insert places (rank_in p places) p ≡ put_place p places
put_new p [] d other = refl
put_new p (q ∷ places) d other = elim (cases_Bool (is_before q p)) [
  | inl is ↦ (let rank = rank_after p q places is in
      let rest : insert places (rank_in p places) p ≡ put_place p places =
      put_new p places d (λ l. subst (λ n. same_place (get_or (q ∷ places) n d) p ≡ false) rank (other (omega (arith, l, rank)))) in
      ap (λ n. insert (q ∷ places) n p) rank ∙ ap (λ (x : List Place). q ∷ x) rest ∙ sym (put_after p q places is))
  | inr not ↦ (let rank = rank_here p q places not in
      ap (λ n. insert (q ∷ places) n p) rank ∙ sym (put_here p q places not (subst (λ n. same_place (get_or (q ∷ places) n d) p ≡ false) rank (other (omega (arith, rank))))))
]

pub with_join : (places : List Place) (one other : List (Option Place)) → with_places (with_places places one) other ≡ with_places places (one ++ other)
with_join places [] other = refl
with_join places (None ∷ one) other = with_join places one other
with_join places (Some p ∷ one) other = with_join (put_place p places) one other

-- ---- what is of each of them

pub all_with : (P : Place → Type 0) (places : List Place) (slots : List (Option Place)) → AllByRecursion P places → AllByRecursion (λ s. IfSome s P) slots → AllByRecursion P (with_places places slots)
all_with P places [] all told = all
all_with P places (None ∷ slots) all told = all_with P places slots all told.1
all_with P places (Some p ∷ slots) all told = all_with P (put_place p places) slots (all_put P p places told.0 all) told.1

-- ---- which are among them

-- a place is one, whatever is in front
among_rest : (q : Place) (places : List Place) (p : Place) → is_one_of places p ≡ true → is_one_of (q ∷ places) p ≡ true
among_rest q places p is = or_right (same_place q p) (is_one_of places p) is

abbrev pub OnePlaceIs : Type 0
OnePlaceIs = (p : Place) → same_place p p ≡ true

put_has : OnePlaceIs → (p : Place) (places : List Place) → is_one_of (put_place p places) p ≡ true
put_has one p [] = or_left (same_place p p) false (one p)
put_has one p (q ∷ places) =
    cond_both (is_before q p) (q ∷ put_place p places) (cond (same_place q p) (q ∷ places) (p ∷ q ∷ places)) (λ x. is_one_of x p ≡ true)
    (λ before. among_rest q (put_place p places) p (put_has one p places))
    (λ not. cond_both (same_place q p) (q ∷ places) (p ∷ q ∷ places) (λ x. is_one_of x p ≡ true)
    (λ same. or_left (same_place q p) (is_one_of places p) same)
    (λ other. or_left (same_place p p) (is_one_of (q ∷ places) p) (one p)))

put_keeps : (p : Place) (places : List Place) (r : Place) → is_one_of places r ≡ true → is_one_of (put_place p places) r ≡ true
put_keeps p [] r is = absurd (cc)
put_keeps p (q ∷ places) r is =
    cond_both (is_before q p) (q ∷ put_place p places) (cond (same_place q p) (q ∷ places) (p ∷ q ∷ places)) (λ x. is_one_of x r ≡ true)
    (λ before. elim (or_cases (same_place q r) (is_one_of places r) is) [
      | inl here ↦ or_left (same_place q r) (is_one_of (put_place p places) r) here
      | inr later ↦ among_rest q (put_place p places) r (put_keeps p places r later)
    ])
    (λ not. cond_both (same_place q p) (q ∷ places) (p ∷ q ∷ places) (λ x. is_one_of x r ≡ true) (λ same. is) (λ other. among_rest p (q ∷ places) r is))

with_keeps : (places : List Place) (slots : List (Option Place)) (r : Place) → is_one_of places r ≡ true → is_one_of (with_places places slots) r ≡ true
with_keeps places [] r is = is
with_keeps places (None ∷ slots) r is = with_keeps places slots r is
with_keeps places (Some p ∷ slots) r is = with_keeps (put_place p places) slots r (put_keeps p places r is)

-- each of the pointers is a hole, or refers to one of the places
pub with_has : OnePlaceIs → (places : List Place) (slots : List (Option Place)) → AllByRecursion (λ s. IfSome s (λ p. is_one_of (with_places places slots) p ≡ true)) slots
with_has one places [] = tt
with_has one places (None ∷ slots) = (tt, with_has one places slots)
with_has one places (Some p ∷ slots) = (with_keeps (put_place p places) slots p (put_has one p places), with_has one (put_place p places) slots)
