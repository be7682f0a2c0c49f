-- Runs without their moments below the floor.
use Rattle.std.proofs.Common.{◌≡◌, inl, inr, ℕ, ◌==◌, ◌&&◌, ◌||◌, ◌+◌, ◌<◌, ◌≤◌, nat_le, max, List, [], ◌∷◌, length, count_by, map, refl, sym, ap, ◌∙◌, arith}
use Rattle.std.specs.List.{list_any, AllByRecursion}
use Rattle.std.proofs.lemmas.Bool.Decides.{nat_tests}
use Rattle.s4_types.specs.declared.spans.Span.{Span}
use Rattle.s4_types.specs.declared.limits.TheConstants.{RUNS_IN_A_LIST}
use Rattle.lemmas.proofs.Range.{tally}
use Rattle.window.specs.Runs.{covers, IsBeforeAll, Ascend, AllEndFrom, AllBeginFrom, AreFewInEachList, cut, span_is_of}
use Rattle.window.specs.Timeline.{CoverAlike}
use Rattle.window.proofs.Ordering.{Before, before_parts, before_from}
use Rattle.window.proofs.Counting.{count_cons}

-- from the floor on there is nothing to cut
pub cut_none : (floor : ℕ) (runs : List Span) → AllBeginFrom floor runs → map (cut floor) runs ≡ runs
cut_none floor [] from = refl
cut_none floor (run ∷ runs) from =
    let le : floor ≤ run.first = from.0 in
    let first : max run.first floor ≡ run.first = omega arith in
    let same : cut floor run ≡ run = ap (λ n. let span : Span = record { object = run.object; first = n; last = run.last } in span) first in
    ap (λ x. x ∷ map (cut floor) runs) same ∙ ap (λ xs. run ∷ xs) (cut_none floor runs from.1)

-- what holds of each run and of what is left of it
pub cut_all : (P : Span → Type 0) (floor : ℕ) (runs : List Span) → ((run : Span) → P run → P (cut floor run)) → AllByRecursion P runs → AllByRecursion P (map (cut floor) runs)
cut_all P floor [] still all = tt
cut_all P floor (run ∷ runs) still all = (still run all.0, cut_all P floor runs still all.1)

pub cut_from : (floor : ℕ) (runs : List Span) → AllBeginFrom floor (map (cut floor) runs)
cut_from floor [] = tt
cut_from floor (run ∷ runs) = (omega arith, cut_from floor runs)

Before-cut : (floor : ℕ) (x y : Span) → Before x y → Before (cut floor x) (cut floor y)
Before-cut floor x y (inl a) = inl a
Before-cut floor x y (inr a) = let gap : x.last + 1 < y.first = a.1 in inr (a.0, omega arith)

cut_before : (floor : ℕ) (x : Span) (runs : List Span) → IsBeforeAll x runs → IsBeforeAll (cut floor x) (map (cut floor) runs)
cut_before floor x [] all = tt
cut_before floor x (run ∷ runs) all = (before_from (cut floor x) (cut floor run) (Before-cut floor x run (before_parts x run all.0)), cut_before floor x runs all.1)

-- runs that reach the floor stay in order
pub cut_ascend : (floor : ℕ) (runs : List Span) → AllEndFrom floor runs → Ascend runs → Ascend (map (cut floor) runs)
cut_ascend floor [] live h = tt
cut_ascend floor (run ∷ runs) live h =
    let a : floor ≤ run.last = live.0 in
    let b : run.first ≤ run.last = h.0 in
    (omega arith, cut_before floor run runs h.1, cut_ascend floor runs live.1 h.2)

-- and as many
pub cut_length : (floor : ℕ) (runs : List Span) → length (map (cut floor) runs) ≡ length runs
cut_length floor [] = refl
cut_length floor (run ∷ runs) = let rest : length (map (cut floor) runs) ≡ length runs = cut_length floor runs in omega arith

pub cut_count : (floor list : ℕ) (runs : List Span) → count_by (span_is_of list) (map (cut floor) runs) ≡ count_by (span_is_of list) runs
cut_count floor list [] = refl
cut_count floor list (run ∷ runs) =
    count_cons (span_is_of list) (cut floor run) (map (cut floor) runs) ∙ ap (λ n. tally (span_is_of list run) + n) (cut_count floor list runs) ∙ sym (count_cons (span_is_of list) run runs)

pub cut_few : (floor : ℕ) (runs : List Span) → AreFewInEachList runs → AreFewInEachList (map (cut floor) runs)
cut_few floor runs few list =
    let same : count_by (span_is_of list) (map (cut floor) runs) ≡ count_by (span_is_of list) runs = cut_count floor list runs in
    let le : count_by (span_is_of list) runs ≤ RUNS_IN_A_LIST = few list in
    omega arith

within_cut : (floor f l t : ℕ) → floor ≤ t → (nat_le (max f floor) t && nat_le t l) ≡ (nat_le f t && nat_le t l)
within_cut floor f l t le = grind (arith, nat_tests)

-- from the floor on they cover what they did
pub cut_alike : (floor : ℕ) (runs : List Span) → CoverAlike floor (map (cut floor) runs) runs
cut_alike floor [] list t le = refl
cut_alike floor (run ∷ runs) list t le =
    ap (λ b. (run.object == list && b) || list_any (covers list t) (map (cut floor) runs)) (within_cut floor run.first run.last t le)
    ∙ ap (λ b. covers list t run || b) (cut_alike floor runs list t le)
