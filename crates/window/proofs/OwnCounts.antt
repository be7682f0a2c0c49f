-- How many runs each list has, with one more span and without what lies below the floor.
use Rattle.std.proofs.Common.{◌≡◌, ◌≢◌, inl, inr, ℕ, Bool, ◌==◌, ◌+◌, ◌≤◌, nat_le, min, List, [], ◌∷◌, count_by, filter, refl, sym, ap, subst, ◌∙◌, arith}
use Rattle.std.proofs.lemmas.Bool.{cond_both, cases_Bool, cases_eq, le-leb, ne_eqb}
use Rattle.s4_types.specs.declared.spans.Span.{Span}
use Rattle.s4_types.specs.declared.limits.TheConstants.{RUNS_IN_A_LIST}
use Rattle.lemmas.proofs.Bool.{and_true}
use Rattle.lemmas.proofs.Range.{tally}
use Rattle.window.specs.Runs.{Ascend, is_before, joined_span, with_span, AllEndFrom, AreFewInEachList, is_live, is_live_in, span_is_of}
use Rattle.window.proofs.Ordering.{touch_from, with_span_past, with_span_before, with_span_joined, all_with_span, all_filter, Ascend-with_span, Ascend-filter}
use Rattle.window.proofs.Live.{live_from, from_later}
use Rattle.window.proofs.Counting.{count_cons}

-- some of the runs are no more than all
pub count_in_some : (p q : Span → Bool) (runs : List Span) → count_by p (filter q runs) ≤ count_by p runs
count_in_some p q [] = omega arith
count_in_some p q (run ∷ runs) =
    let rest : count_by p (filter q runs) ≤ count_by p runs = count_in_some p q runs in
    let all : count_by p (run ∷ runs) ≡ tally (p run) + count_by p runs = count_cons p run runs in
    cond_both (q run) _ _ (λ xs. count_by p xs ≤ count_by p (run ∷ runs))
    (λ _. let some : count_by p (run ∷ filter q runs) ≡ tally (p run) + count_by p (filter q runs) = count_cons p run (filter q runs) in omega arith)
    (λ _. omega arith)

pub few_in_some : (q : Span → Bool) (runs : List Span) → AreFewInEachList runs → AreFewInEachList (filter q runs)
few_in_some q runs few list =
    let all : count_by (span_is_of list) runs ≤ RUNS_IN_A_LIST = few list in
    let some : count_by (span_is_of list) (filter q runs) ≤ count_by (span_is_of list) runs = count_in_some (span_is_of list) q runs in
    omega arith

-- where all runs reach the floor, those of a list that do are those of the list
pub count_where_live : (floor list : ℕ) (runs : List Span) → AllEndFrom floor runs → count_by (is_live_in floor list) runs ≡ count_by (span_is_of list) runs
count_where_live floor list [] live = refl
count_where_live floor list (run ∷ runs) live =
    let rest : count_by (is_live_in floor list) runs ≡ count_by (span_is_of list) runs = count_where_live floor list runs live.1 in
    let a : count_by (is_live_in floor list) (run ∷ runs) ≡ tally (is_live_in floor list run) + count_by (is_live_in floor list) runs = count_cons (is_live_in floor list) run runs in
    let b : count_by (span_is_of list) (run ∷ runs) ≡ tally (span_is_of list run) + count_by (span_is_of list) runs = count_cons (span_is_of list) run runs in
    let here : tally (is_live_in floor list run) ≡ tally (span_is_of list run) = ap tally (and_true (run.object == list) (nat_le floor run.last) (le-leb floor run.last live.0)) in
    omega arith

not_of : (list : ℕ) (run : Span) → list ≢ run.object → tally (span_is_of list run) ≡ 0
not_of list run other = ap tally (ne_eqb run.object list (λ (e : run.object ≡ list). other (sym e)))

-- a span leaves the runs of the other lists
pub count_elsewhere : (list : ℕ) (span : Span) (runs : List Span) → list ≢ span.object → count_by (span_is_of list) (with_span span runs) ≡ count_by (span_is_of list) runs
count_elsewhere list span [] other =
    let a : count_by (span_is_of list) (span ∷ []) ≡ tally (span_is_of list span) + count_by (span_is_of list) [] = count_cons (span_is_of list) span [] in
    let none : tally (span_is_of list span) ≡ 0 = not_of list span other in
    omega arith
count_elsewhere list span (run ∷ runs) other =
    let all : count_by (span_is_of list) (run ∷ runs) ≡ tally (span_is_of list run) + count_by (span_is_of list) runs = count_cons (span_is_of list) run runs in
    elim (cases_Bool (is_before run span)) [
      | inl past ↦ (let rest : count_by (span_is_of list) (with_span span runs) ≡ count_by (span_is_of list) runs = count_elsewhere list span runs other in
          let is : count_by (span_is_of list) (with_span span (run ∷ runs)) ≡ count_by (span_is_of list) (run ∷ with_span span runs) = ap (count_by (span_is_of list)) (with_span_past span run runs past) in
          let more : count_by (span_is_of list) (run ∷ with_span span runs) ≡ tally (span_is_of list run) + count_by (span_is_of list) (with_span span runs) = count_cons (span_is_of list) run (with_span span runs) in
          omega arith)
      | inr later ↦ elim (cases_Bool (is_before span run)) as (λ _. count_by (span_is_of list) (with_span span (run ∷ runs)) ≡ count_by (span_is_of list) (run ∷ runs)) [
        | inl earlier ↦ (let is : count_by (span_is_of list) (with_span span (run ∷ runs)) ≡ count_by (span_is_of list) (span ∷ run ∷ runs) = ap (count_by (span_is_of list)) (with_span_before span run runs later earlier) in
            let more : count_by (span_is_of list) (span ∷ run ∷ runs) ≡ tally (span_is_of list span) + count_by (span_is_of list) (run ∷ runs) = count_cons (span_is_of list) span (run ∷ runs) in
            let none : tally (span_is_of list span) ≡ 0 = not_of list span other in
            omega arith)
        | inr touch ↦ (let same : span.object ≡ run.object = (touch_from span run touch later).object in
            let is : count_by (span_is_of list) (with_span span (run ∷ runs)) ≡ count_by (span_is_of list) (with_span (joined_span span run) runs) = ap (count_by (span_is_of list)) (with_span_joined span run runs later touch) in
            let rest : count_by (span_is_of list) (with_span (joined_span span run) runs) ≡ count_by (span_is_of list) runs = count_elsewhere list (joined_span span run) runs other in
            let none : tally (span_is_of list run) ≡ 0 = not_of list run (λ (e : list ≡ run.object). other (e ∙ sym same)) in
            omega arith)
      ]
    ]

-- runs with a span are few in each list where those of its own list are
pub few_with_span : (floor : ℕ) (span : Span) (runs all : List Span) → all ≡ filter (is_live floor) (with_span span runs) → AllEndFrom floor all → count_by (is_live_in floor span.object) all ≤ RUNS_IN_A_LIST → AreFewInEachList runs → AreFewInEachList all
few_with_span floor span runs all is live own few list = elim (cases_eq list span.object) [
  | inl same ↦ (let a : count_by (is_live_in floor span.object) all ≡ count_by (span_is_of span.object) all = count_where_live floor span.object all live in
      let b : count_by (span_is_of list) all ≡ count_by (span_is_of span.object) all = ap (λ n. count_by (span_is_of n) all) same in
      omega arith)
  | inr other ↦ (let a : count_by (span_is_of list) (with_span span runs) ≡ count_by (span_is_of list) runs = count_elsewhere list span runs other in
      let b : count_by (span_is_of list) all ≡ count_by (span_is_of list) (filter (is_live floor) (with_span span runs)) = ap (count_by (span_is_of list)) is in
      let c : count_by (span_is_of list) (filter (is_live floor) (with_span span runs)) ≤ count_by (span_is_of list) (with_span span runs) = count_in_some (span_is_of list) (is_live floor) (with_span span runs) in
      let d : count_by (span_is_of list) runs ≤ RUNS_IN_A_LIST = few list in
      omega arith)
]

-- ---- runs that reach the floor with a span

-- all do where the span does
pub live_with : (floor : ℕ) (span : Span) (runs all : List Span) → all ≡ with_span span runs → AllEndFrom floor runs → floor ≤ span.last → AllEndFrom floor all
live_with floor span runs all is live le = subst (AllEndFrom floor) (sym is) (all_with_span (λ run. floor ≤ run.last) span runs (λ x y p q. omega arith) le live)

pub live_ordered : (floor : ℕ) (span : Span) (runs all : List Span) → all ≡ filter (is_live floor) (with_span span runs) → span.first ≤ span.last → Ascend runs → Ascend all
live_ordered floor span runs all is ordered h = subst Ascend (sym is) (Ascend-filter (is_live floor) (with_span span runs) (Ascend-with_span span runs ordered h))

pub live_counted : (floor : ℕ) (span : Span) (runs all : List Span) → all ≡ filter (is_live floor) (with_span span runs) → count_by (span_is_of span.object) all ≡ count_by (is_live_in floor span.object) all
live_counted floor span runs all is = sym (count_where_live floor span.object all (subst (AllEndFrom floor) (sym is) (live_from floor (with_span span runs))))

pub live_dated : (floor from end : ℕ) (span : Span) (runs all : List Span) → all ≡ filter (is_live floor) (with_span span runs) → end ≡ min from span.last → AllEndFrom from runs → AllEndFrom end all
live_dated floor from end span runs all is least dated =
    let later : AllEndFrom end (with_span span runs) = all_with_span (λ run. end ≤ run.last) span runs (λ x y p q. omega arith) (omega arith) (from_later end from runs (omega arith) dated) in
    subst (AllEndFrom end) (sym is) (all_filter (λ run. end ≤ run.last) (is_live floor) (with_span span runs) later)
