-- Runs that reach a floor.
use Rattle.std.proofs.Common.{◌≡◌, inl, inr, ℕ, ◌+◌, ◌-◌, ◌^◌, ◌<◌, ◌≤◌, ◌==◌, nat_le, min, List, [], ◌∷◌, count_by, filter, refl, sym, ap, ◌∙◌, arith}
use Rattle.std.proofs.lemmas.Bool.{cond_both, cond-true, cond-false, cases_Bool, leb-true, leb-false, le-leb, lt-leb, and_right}
use Rattle.s4_types.specs.declared.spans.Span.{Span}
use Rattle.lemmas.proofs.Range.{tally}
use Rattle.window.specs.Runs.{AllEndFrom, AllEndBefore, earliest, is_live, is_live_in}
use Rattle.s4_model.specs.RunCounting.{AllEndBy}
use Rattle.window.proofs.Counting.{count_cons}

pub from_later : (a b : ℕ) (runs : List Span) → a ≤ b → AllEndFrom b runs → AllEndFrom a runs
from_later a b [] le all = tt
from_later a b (run ∷ runs) le all = let end : b ≤ run.last = all.0 in (omega arith, from_later a b runs le all.1)

-- what ends before a moment ends by it
pub ends_by : (clock : ℕ) (runs : List Span) → AllEndBefore clock runs → AllEndBy clock runs
ends_by clock [] all = tt
ends_by clock (run ∷ runs) all = let end : run.last < clock = all.0 in (omega arith, ends_by clock runs all.1)

-- and what ends by it ends before each later one
pub ends_before : (clock later : ℕ) (runs : List Span) → clock < later → AllEndBy clock runs → AllEndBefore later runs
ends_before clock later [] lt all = tt
ends_before clock later (run ∷ runs) lt all = let end : run.last ≤ clock = all.0 in (omega arith, ends_before clock later runs lt all.1)

pub ends_later : (clock later : ℕ) (runs : List Span) → clock ≤ later → AllEndBefore clock runs → AllEndBefore later runs
ends_later clock later [] le all = tt
ends_later clock later (run ∷ runs) le all = let end : run.last < clock = all.0 in (omega arith, ends_later clock later runs le all.1)

pub from_earliest : (runs : List Span) → AllEndFrom (earliest runs) runs
from_earliest [] = tt
from_earliest (run ∷ runs) = (omega arith, from_later (min run.last (earliest runs)) (earliest runs) runs (omega arith) (from_earliest runs))

pub earliest_bound : (runs : List Span) → earliest runs ≤ 2 ^ 64 - 1
earliest_bound [] = omega arith
earliest_bound (run ∷ runs) = let le : earliest runs ≤ 2 ^ 64 - 1 = earliest_bound runs in omega arith

-- where all reach the floor, none is left out
pub all_live : (floor : ℕ) (runs : List Span) → AllEndFrom floor runs → filter (is_live floor) runs ≡ runs
all_live floor [] all = refl
all_live floor (run ∷ runs) all = cond-true (nat_le floor run.last) _ _ (le-leb floor run.last all.0) ∙ ap (λ xs. run ∷ xs) (all_live floor runs all.1)

pub live_from : (floor : ℕ) (runs : List Span) → AllEndFrom floor (filter (is_live floor) runs)
live_from floor [] = tt
live_from floor (run ∷ runs) =
    cond_both (is_live floor run) _ _ (AllEndFrom floor)
    (λ alive. (leb-true floor run.last alive, live_from floor runs))
    (λ _. live_from floor runs)

-- what falls below one floor falls below a later one
pub live_twice : (a b : ℕ) (runs : List Span) → a ≤ b → filter (is_live b) (filter (is_live a) runs) ≡ filter (is_live b) runs
live_twice a b [] le = refl
live_twice a b (run ∷ runs) le = elim (cases_Bool (nat_le a run.last)) [
  | inl alive ↦ ap (filter (is_live b)) (cond-true (nat_le a run.last) _ _ alive)
      ∙ elim (cases_Bool (nat_le b run.last)) as (λ _. filter (is_live b) (run ∷ filter (is_live a) runs) ≡ filter (is_live b) (run ∷ runs)) [
        | inl both ↦ cond-true (nat_le b run.last) _ _ both ∙ ap (λ xs. run ∷ xs) (live_twice a b runs le) ∙ sym (cond-true (nat_le b run.last) _ _ both)
        | inr one ↦ cond-false (nat_le b run.last) _ _ one ∙ live_twice a b runs le ∙ sym (cond-false (nat_le b run.last) _ _ one)
      ]
  | inr dead ↦ (let under : run.last < a = leb-false _ _ dead in
      ap (filter (is_live b)) (cond-false (nat_le a run.last) _ _ dead)
      ∙ live_twice a b runs le
      ∙ sym (cond-false (nat_le b run.last) _ _ (lt-leb b run.last (omega arith))))
]

-- runs of a list are counted alike where those below the floor are left out
pub count_live_in : (floor list : ℕ) (runs : List Span) → count_by (is_live_in floor list) (filter (is_live floor) runs) ≡ count_by (is_live_in floor list) runs
count_live_in floor list [] = refl
count_live_in floor list (run ∷ runs) =
    let rest : count_by (is_live_in floor list) (filter (is_live floor) runs) ≡ count_by (is_live_in floor list) runs = count_live_in floor list runs in
    let a : count_by (is_live_in floor list) (run ∷ runs) ≡ tally (is_live_in floor list run) + count_by (is_live_in floor list) runs = count_cons (is_live_in floor list) run runs in
    elim (cases_Bool (nat_le floor run.last)) [
      | inl alive ↦ (let b : count_by (is_live_in floor list) (run ∷ filter (is_live floor) runs) ≡ tally (is_live_in floor list run) + count_by (is_live_in floor list) (filter (is_live floor) runs) = count_cons (is_live_in floor list) run (filter (is_live floor) runs) in
          let whole : count_by (is_live_in floor list) (filter (is_live floor) (run ∷ runs)) ≡ count_by (is_live_in floor list) (run ∷ filter (is_live floor) runs) = ap (count_by (is_live_in floor list)) (cond-true (nat_le floor run.last) _ _ alive) in
          omega arith)
      | inr dead ↦ (let none : tally (is_live_in floor list run) ≡ 0 = ap tally (and_right (run.object == list) (nat_le floor run.last) dead) in
          let whole : count_by (is_live_in floor list) (filter (is_live floor) (run ∷ runs)) ≡ count_by (is_live_in floor list) (filter (is_live floor) runs) = ap (count_by (is_live_in floor list)) (cond-false (nat_le floor run.last) _ _ dead) in
          omega arith)
    ]
