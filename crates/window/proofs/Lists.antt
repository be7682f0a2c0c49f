-- The runs of one list are together, and have in them what the list covers.
use Rattle.std.proofs.Common.{◌≡◌, inl, inr, ℕ, zero, suc, Bool, true, false, not, ◌==◌, ◌&&◌, ◌||◌, ◌+◌, ◌-◌, ◌<◌, ◌≤◌, nat_lt, nat_le, List, [], ◌∷◌, length, take, drop, get_or, filter, refl, sym, ap, subst, ◌∙◌, length-drop, arith}
use Rattle.std.specs.List.{list_any, AllWithin, AllByRecursion}
use Rattle.std.specs.List.Sorted.{IsNonDecreasingBy, IsPartitionPoint}
use Rattle.std.proofs.lemmas.Bool.{cond_both, cond-true, cond-false, cases_Bool, eqb-true}
use Rattle.std.proofs.lemmas.Bool.Decides.{nat_tests}
use Rattle.std.proofs.lemmas.List.{take_all}
use Rattle.s4_types.specs.declared.spans.Span.{Span}
use Rattle.s4_model.specs.Visible.{is_within}
use Rattle.window.specs.Runs.{IsBeforeAll, Ascend, span_is_of, covers, cover, BeginInOrder}
use Rattle.window.proofs.Ordering.{before_parts}

-- no run that follows is of an earlier list
later_list : (run : Span) (runs : List Span) → IsBeforeAll run runs → (k : ℕ) (d : Span) → k < length runs → run.object ≤ (get_or runs k d).object
later_list run [] all k d lt = absurd (omega arith)
later_list run (next ∷ runs) all zero d lt = elim (before_parts run next all.0) [
  | inl less ↦ omega arith
  | inr apart ↦ let same : run.object ≡ next.object = apart.0 in omega arith
]
later_list run (next ∷ runs) all (suc k) d lt = later_list run runs all.1 k d (omega arith)

pub rises : (runs : List Span) → Ascend runs → IsNonDecreasingBy (λ run. run.object) runs
rises [] h i j d le lt = absurd (omega arith)
rises (run ∷ runs) h zero zero d le lt = omega arith
rises (run ∷ runs) h zero (suc j) d le lt = later_list run runs h.1 j d (omega arith)
rises (run ∷ runs) h (suc i) zero d le lt = absurd (omega arith)
rises (run ∷ runs) h (suc i) (suc j) d le lt = rises runs h.2 i j d (omega arith) (omega arith)

none_pass : (p : Span → Bool) (runs : List Span) → AllWithin (λ run. p run ≡ false) runs 0 (length runs) → filter p runs ≡ []
none_pass p [] none = refl
none_pass p (run ∷ runs) none = cond-false (p run) _ _ (none 0 run (omega arith) (omega arith)) ∙ none_pass p runs (λ k d low high. none (suc k) d (omega arith) (omega arith))

all_pass : (p : Span → Bool) (runs : List Span) → AllWithin (λ run. p run ≡ true) runs 0 (length runs) → filter p runs ≡ runs
all_pass p [] all = refl
all_pass p (run ∷ runs) all =
    cond-true (p run) _ _ (all 0 run (omega arith) (omega arith))
    ∙ ap (λ rest. run ∷ rest) (all_pass p runs (λ k d low high. all (suc k) d (omega arith) (omega arith)))

-- what is before the point at which a test fails is what passes it
pub front_passes : (p : Span → Bool) (runs : List Span) (i : ℕ) → IsPartitionPoint (λ run. p run ≡ true) (λ run. p run ≡ false) runs i → take i runs ≡ filter p runs
front_passes p [] zero point = refl
front_passes p [] (suc i) point = refl
front_passes p (run ∷ runs) zero point = sym (none_pass p (run ∷ runs) point.1)
front_passes p (run ∷ runs) (suc i) point =
    ap (λ rest. run ∷ rest) (front_passes p runs i (λ k d low high. point.0 (suc k) d (omega arith) (omega arith), λ k d low high. point.1 (suc k) d (omega arith) (omega arith)))
    ∙ sym (cond-true (p run) _ _ (point.0 0 run (omega arith) (omega arith)))

-- and what comes after it is what fails
pub back_passes : (p q : Span → Bool) (runs : List Span) (i : ℕ) → ((run : Span) → q run ≡ not (p run)) → IsPartitionPoint (λ run. p run ≡ true) (λ run. p run ≡ false) runs i → drop i runs ≡ filter q runs
back_passes p q [] zero other point = refl
back_passes p q [] (suc i) other point = refl
back_passes p q (run ∷ runs) zero other point =
    sym (all_pass q (run ∷ runs) (λ k d low high. other (get_or (run ∷ runs) k d) ∙ ap not (point.1 k d low high)))
back_passes p q (run ∷ runs) (suc i) other point =
    back_passes p q runs i other (λ k d low high. point.0 (suc k) d (omega arith) (omega arith), λ k d low high. point.1 (suc k) d (omega arith) (omega arith))
    ∙ sym (cond-false (q run) _ _ (other run ∙ ap not (point.0 0 run (omega arith) (omega arith))))

from_there : (list a : ℕ) → nat_le list a ≡ not (nat_lt a list)
from_there list a = grind (arith, nat_tests)

pub lists_from : (list : ℕ) (runs : List Span) (i : ℕ) → IsPartitionPoint (λ run. nat_lt run.object list ≡ true) (λ run. nat_lt run.object list ≡ false) runs i → take (length runs - i) (drop i runs) ≡ filter (λ run. nat_le list run.object) runs
lists_from list runs i point =
    take_all (length runs - i) (drop i runs) (omega (arith, length-drop i runs))
    ∙ back_passes (λ run. nat_lt run.object list) (λ run. nat_le list run.object) runs i (λ run. from_there list run.object) point

pub lists_up_to : (list : ℕ) (runs : List Span) (i : ℕ) → IsPartitionPoint (λ run. nat_le run.object list ≡ true) (λ run. nat_le run.object list ≡ false) runs i → take i runs ≡ filter (λ run. nat_le run.object list) runs
lists_up_to list runs i point = front_passes (λ run. nat_le run.object list) runs i point

passes_both : (p q r : Span → Bool) (runs : List Span) → ((run : Span) → r run ≡ (q run && p run)) → filter p (filter q runs) ≡ filter r runs
passes_both p q r [] both = refl
passes_both p q r (run ∷ runs) both = elim (cases_Bool (q run)) [
  | inl first ↦ ap (filter p) (cond-true (q run) _ _ first) ∙ elim (cases_Bool (p run)) as (λ _. filter p (run ∷ filter q runs) ≡ filter r (run ∷ runs)) [
    | inl second ↦ cond-true (p run) _ _ second ∙ ap (λ rest. run ∷ rest) (passes_both p q r runs both) ∙ sym (cond-true (r run) _ _ (both run ∙ ap (λ b. b && p run) first ∙ second))
    | inr fails ↦ cond-false (p run) _ _ fails ∙ passes_both p q r runs both ∙ sym (cond-false (r run) _ _ (both run ∙ ap (λ b. b && p run) first ∙ fails))
  ]
  | inr fails ↦ ap (filter p) (cond-false (q run) _ _ fails) ∙ passes_both p q r runs both ∙ sym (cond-false (r run) _ _ (both run ∙ ap (λ b. b && p run) fails))
]

same_list : (a list : ℕ) → (a == list) ≡ (nat_le list a && nat_le a list)
same_list a list = grind (arith, nat_tests)

-- the runs from a list on, up to that list, are those of the list
pub from_and_up_to : (list : ℕ) (runs : List Span) → filter (λ run. nat_le run.object list) (filter (λ run. nat_le list run.object) runs) ≡ filter (span_is_of list) runs
from_and_up_to list runs = passes_both (λ run. nat_le run.object list) (λ run. nat_le list run.object) (span_is_of list) runs (λ run. same_list run.object list)

-- the runs of a list have in them what the list covers
pub cover_of : (list t : ℕ) (runs : List Span) → cover (filter (span_is_of list) runs) t ≡ list_any (covers list t) runs
cover_of list t [] = refl
cover_of list t (run ∷ runs) =
    let P : List Span → Type 0 = λ all. cover all t ≡ (covers list t run || list_any (covers list t) runs) in
    cond_both (span_is_of list run) _ _ P
    (λ own. ap (λ b. is_within run t || b) (cover_of list t runs) ∙ sym (ap (λ b. (b && is_within run t) || list_any (covers list t) runs) own))
    (λ other. cover_of list t runs ∙ sym (ap (λ b. (b && is_within run t) || list_any (covers list t) runs) other))

later_begin : (list : ℕ) (run : Span) (runs : List Span) → run.object ≡ list → run.first ≤ run.last → IsBeforeAll run runs → AllByRecursion (λ next. run.first ≤ next.first) (filter (span_is_of list) runs)
later_begin list run [] own ordered all = tt
later_begin list run (next ∷ runs) own ordered all =
    cond_both (span_is_of list next) _ _ (AllByRecursion (λ next. run.first ≤ next.first))
    (λ e. (
      elim (before_parts run next all.0) as (λ _. run.first ≤ next.first) [
        | inl less ↦ let same : next.object ≡ list = eqb-true _ _ e in absurd (omega arith)
        | inr apart ↦ let gap : run.last + 1 < next.first = apart.1 in omega arith
      ],
      later_begin list run runs own ordered all.1,
    ))
    (λ _. later_begin list run runs own ordered all.1)

-- the runs of a list begin one after the other
pub begin_in_order : (list : ℕ) (runs : List Span) → Ascend runs → BeginInOrder (filter (span_is_of list) runs)
begin_in_order list [] h = tt
begin_in_order list (run ∷ runs) h =
    cond_both (span_is_of list run) _ _ BeginInOrder
    (λ own. (later_begin list run runs (eqb-true _ _ own) h.0 h.1, begin_in_order list runs h.2))
    (λ _. begin_in_order list runs h.2)

pub begins_in_order : (list : ℕ) (runs same own : List Span) → own ≡ filter (span_is_of list) same → same ≡ runs → Ascend runs → BeginInOrder own
begins_in_order list runs same own is e h =
    let P : List Span → Type 0 = λ xs. BeginInOrder xs in
    subst P (sym (is ∙ ap (λ xs. filter (span_is_of list) xs) e)) (begin_in_order list runs h)
