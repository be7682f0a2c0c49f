-- Runs in order are as many as the model counts, in each list and in all.
use Rattle.std.proofs.Common.{◌≡◌, inl, inr, ℕ, zero, suc, Bool, true, false, not, ◌==◌, ◌&&◌, ◌||◌, ◌+◌, ◌-◌, ◌<◌, ◌≤◌, nat_lt, nat_le, cond, max, List, [], ◌∷◌, count_by, refl, sym, ap, ◌∙◌, arith}
use Rattle.std.specs.List.{list_any, AllByRecursion}
use Rattle.std.proofs.lemmas.List.Sums.{sum_by-cons}
use Rattle.std.proofs.lemmas.Bool.{and_parts, and_from, and_cases, and_left, and_right, or_cases, le-leb, lt-leb, leb-true, leb-false, lt-ltb, le-ltb, eqb-true, eq-eqb, ne_eqb, cases_Bool, cases_order, cases_lt, cases_eq, both_ways, false_from_ne_true}
use Rattle.std.proofs.lemmas.Bool.Decides.{nat_tests}
use Rattle.s4_types.specs.declared.spans.Span.{Span}
use Rattle.lemmas.proofs.Bool.{or_false}
use Rattle.lemmas.proofs.Range.{count_by_range, below, sum_by_range_more, tally}
use Rattle.s4_model.specs.Visible.{is_within}
use Rattle.s4_model.specs.Runs.{is_covered, is_first, run_count, run_count_of_all}
use Rattle.s4_model.specs.Sound.{IsOfGiven}
use Rattle.s4_model.specs.RunCounting.{AllEndBy}
use Rattle.window.specs.Runs.{covers, IsBeforeAll, Ascend, is_live, is_live_in}
use Rattle.window.proofs.Ordering.{before_parts}

-- the runs of one list more
run_count_of_all-more : (floor clock k : ℕ) (spans : List Span) → run_count_of_all floor spans clock (suc k) ≡ run_count_of_all floor spans clock k + run_count (is_covered floor spans k) clock
run_count_of_all-more floor clock k spans = sum_by_range_more (λ list. run_count (is_covered floor spans list) clock) k

below-same : (p q : ℕ → Bool) (n : ℕ) → ((t : ℕ) → p t ≡ q t) → below p n ≡ below q n
below-same p q zero same = refl
below-same p q (suc n) same = ap (λ b. below p n + cond b 1 0) (same n) ∙ ap (λ k. k + cond (q n) 1 0) (below-same p q n same)

below-sum : (p q r : ℕ → Bool) (n : ℕ) → ((t : ℕ) → tally (p t) ≡ tally (q t) + tally (r t)) → below p n ≡ below q n + below r n
below-sum p q r zero same = refl
below-sum p q r (suc n) same =
    let before : below p n ≡ below q n + below r n = below-sum p q r n same in
    let here : tally (p n) ≡ tally (q n) + tally (r n) = same n in
    omega arith

below-none : (p : ℕ → Bool) (n : ℕ) → ((t : ℕ) → p t ≡ false) → below p n ≡ 0
below-none p zero none = refl
below-none p (suc n) none =
    let before : below p n ≡ 0 = below-none p n none in
    let here : tally (p n) ≡ 0 = ap tally (none n) in
    omega arith

is_at : ℕ → ℕ → Bool
is_at m t = t == m

at_past : (m n : ℕ) → n ≤ m → below (is_at m) n ≡ 0
unfolding is_at
at_past m zero le = refl
at_past m (suc n) le =
    let before : below (is_at m) n ≡ 0 = at_past m n (omega arith) in
    let here : tally (n == m) ≡ 0 = ap tally (ne_eqb n m (λ (e : n ≡ m). omega arith)) in
    omega arith

-- one number below the bound is counted once
at_one : (m n : ℕ) → m < n → below (is_at m) n ≡ 1
unfolding is_at
at_one m zero lt = absurd (omega arith)
at_one m (suc n) lt = elim (cases_eq n m) [
  | inl e ↦ (let before : below (is_at m) n ≡ 0 = at_past m n (omega arith) in
      let here : tally (n == m) ≡ 1 = ap tally (eq-eqb n m e) in
      omega arith)
  | inr ne ↦ (let before : below (is_at m) n ≡ 1 = at_one m n (elim (cases_order n m) [ inl e ↦ absurd (ne e) | inr (inl less) ↦ absurd (omega arith) | inr (inr more) ↦ more ]) in
      let here : tally (n == m) ≡ 0 = ap tally (ne_eqb n m ne) in
      omega arith)
]

first_same : (f g : ℕ → Bool) (t : ℕ) → ((u : ℕ) → f u ≡ g u) → is_first f t ≡ is_first g t
first_same f g t same =
    ap (λ b. b && not (nat_lt 0 t && f (t - 1))) (same t) ∙ ap (λ b. g t && not (nat_lt 0 t && b)) (same (t - 1))

-- sets with the same moments have as many runs
pub run_count-same : (f g : ℕ → Bool) (clock : ℕ) → ((t : ℕ) → f t ≡ g t) → run_count f clock ≡ run_count g clock
run_count-same f g clock same =
    count_by_range (is_first f) (clock + 1) ∙ below-same (is_first f) (is_first g) (clock + 1) (λ t. first_same f g t same) ∙ sym (count_by_range (is_first g) (clock + 1))

-- where a stretch of moments alone is a run, it begins at its first
abbrev in_stretch : ℕ → ℕ → ℕ → Bool
in_stretch m l t = nat_le m t && nat_le t l

no_step : (t : ℕ) (b : Bool) → t ≡ 0 → (nat_lt 0 t && b) ≡ false
no_step t b e = and_left (nat_lt 0 t) b (le-ltb 0 t (omega arith))

at_first : (m l t : ℕ) → m ≤ l → t ≡ m → (nat_lt 0 t && in_stretch m l (t - 1)) ≡ false
at_first m l t le e = elim (cases_lt 0 t) [
  | inl pos ↦ and_right (nat_lt 0 t) (in_stretch m l (t - 1)) (and_left (nat_le m (t - 1)) (nat_le (t - 1) l) (lt-leb m (t - 1) (omega arith)))
  | inr none ↦ no_step t (in_stretch m l (t - 1)) (omega arith)
]

near : (m l t : ℕ) → m ≤ l → tally (in_stretch m l t && not (nat_lt 0 t && in_stretch m l (t - 1))) ≡ tally (t == m)
near m l t le = elim (cases_order t m) [
  | inl e ↦ (let in_it : in_stretch m l t ≡ true = and_from (nat_le m t) (nat_le t l) (le-leb m t (omega arith)) (le-leb t l (omega arith)) in
      ap (λ b. tally (b && not (nat_lt 0 t && in_stretch m l (t - 1)))) in_it ∙ ap (λ b. tally (not b)) (at_first m l t le e) ∙ sym (ap tally (eq-eqb t m e)))
  | inr (inl less) ↦ ap (λ b. tally (b && not (nat_lt 0 t && in_stretch m l (t - 1)))) (and_left (nat_le m t) (nat_le t l) (lt-leb m t less)) ∙ sym (ap tally (ne_eqb t m (λ (e : t ≡ m). omega arith)))
  | inr (inr more) ↦ elim (cases_lt l t) [
    | inl past ↦ ap (λ b. tally (b && not (nat_lt 0 t && in_stretch m l (t - 1)))) (and_right (nat_le m t) (nat_le t l) (lt-leb t l past)) ∙ sym (ap tally (ne_eqb t m (λ (e : t ≡ m). omega arith)))
    | inr by ↦ (let in_it : in_stretch m l t ≡ true = and_from (nat_le m t) (nat_le t l) (le-leb m t (omega arith)) (le-leb t l by) in
        let held : (nat_lt 0 t && in_stretch m l (t - 1)) ≡ true = and_from (nat_lt 0 t) (in_stretch m l (t - 1)) (lt-ltb 0 t (omega arith)) (and_from (nat_le m (t - 1)) (nat_le (t - 1) l) (le-leb m (t - 1) (omega arith)) (le-leb (t - 1) l (omega arith))) in
        ap (λ b. tally (b && not (nat_lt 0 t && in_stretch m l (t - 1)))) in_it ∙ ap (λ b. tally (not b)) held ∙ sym (ap tally (ne_eqb t m (λ (e : t ≡ m). omega arith))))
  ]
]

add_none : (a b : ℕ) (c : Bool) → a ≡ b → c ≡ false → a ≡ b + tally c
add_none a b c e f = let g : tally c ≡ 0 = ap tally f in omega arith

-- A stretch and a set that begins two moments or more after it: the runs begin at the stretch's first and where
-- those of the set do.
apart_at : (S B : ℕ → Bool) (m l t : ℕ) → m ≤ l → ((u : ℕ) → S u ≡ (in_stretch m l u || B u)) → ((u : ℕ) → B u ≡ true → l + 1 < u) → tally (is_first S t) ≡ tally (t == m) + tally (is_first B t)
apart_at S B m l t le same after = elim (cases_lt (l + 1) t) [
  | inl far ↦ (let out : in_stretch m l t ≡ false = and_right (nat_le m t) (nat_le t l) (lt-leb t l (omega arith)) in
      let out_before : in_stretch m l (t - 1) ≡ false = and_right (nat_le m (t - 1)) (nat_le (t - 1) l) (lt-leb (t - 1) l (omega arith)) in
      let here : S t ≡ B t = same t ∙ ap (λ b. b || B t) out in
      let before : S (t - 1) ≡ B (t - 1) = same (t - 1) ∙ ap (λ b. b || B (t - 1)) out_before in
      let firsts : is_first S t ≡ is_first B t = ap (λ b. b && not (nat_lt 0 t && S (t - 1))) here ∙ ap (λ b. B t && not (nat_lt 0 t && b)) before in
      let count : tally (is_first S t) ≡ tally (is_first B t) = ap tally firsts in
      let none : tally (t == m) ≡ 0 = ap tally (ne_eqb t m (λ (e : t ≡ m). omega arith)) in
      omega arith)
  | inr by ↦ (let none : B t ≡ false = false_from_ne_true (B t) (λ (is : B t ≡ true). let k : l + 1 < t = after t is in omega arith) in
      let none_before : B (t - 1) ≡ false = false_from_ne_true (B (t - 1)) (λ (is : B (t - 1) ≡ true). let k : l + 1 < t - 1 = after (t - 1) is in omega arith) in
      let here : S t ≡ in_stretch m l t = same t ∙ ap (λ b. in_stretch m l t || b) none ∙ or_false (in_stretch m l t) in
      let before : S (t - 1) ≡ in_stretch m l (t - 1) = same (t - 1) ∙ ap (λ b. in_stretch m l (t - 1) || b) none_before ∙ or_false (in_stretch m l (t - 1)) in
      let firsts : is_first S t ≡ (in_stretch m l t && not (nat_lt 0 t && in_stretch m l (t - 1))) = ap (λ b. b && not (nat_lt 0 t && S (t - 1))) here ∙ ap (λ b. in_stretch m l t && not (nat_lt 0 t && b)) before in
      add_none (tally (is_first S t)) (tally (t == m)) (is_first B t) (ap tally firsts ∙ near m l t le) (and_left (B t) (not (nat_lt 0 t && B (t - 1))) none))
]

apart_count : (S B : ℕ → Bool) (m l n : ℕ) → m ≤ l → l < n → ((u : ℕ) → S u ≡ (in_stretch m l u || B u)) → ((u : ℕ) → B u ≡ true → l + 1 < u) → below (is_first S) n ≡ 1 + below (is_first B) n
unfolding is_at
apart_count S B m l n le lt same after =
    let sum : below (is_first S) n ≡ below (is_at m) n + below (is_first B) n = below-sum (is_first S) (is_at m) (is_first B) n (λ t. apart_at S B m l t le same after) in
    let one : below (is_at m) n ≡ 1 = at_one m n (omega arith) in
    omega arith

max_le : (f g t : ℕ) → nat_le (max f g) t ≡ (nat_le g t && nat_le f t)
max_le f g t = grind (arith, nat_tests)

split_and : (g f l r : Bool) → (g && ((f && l) || r)) ≡ (((g && f) && l) || (g && r))
split_and true f l r = refl
split_and false f l r = refl

-- what a live run of the list adds to what the others cover
covered_stretch : (floor list t : ℕ) (run : Span) (runs : List Span) → (run.object == list) ≡ true → is_covered floor (run ∷ runs) list t ≡ (in_stretch (max run.first floor) run.last t || is_covered floor runs list t)
covered_stretch floor list t run runs own =
    ap (λ b. nat_le floor t && ((b && is_within run t) || list_any (covers list t) runs)) own
    ∙ split_and (nat_le floor t) (nat_le run.first t) (nat_le t run.last) (list_any (covers list t) runs)
    ∙ ap (λ b. (b && nat_le t run.last) || is_covered floor runs list t) (sym (max_le run.first floor t))

covered_after : (list t : ℕ) (run : Span) (runs : List Span) → run.object ≡ list → IsBeforeAll run runs → list_any (covers list t) runs ≡ true → run.last + 1 < t
covered_after list t run [] own all h = absurd (both_ways false refl h)
covered_after list t run (next ∷ runs) own all h = elim (or_cases (covers list t next) (list_any (covers list t) runs) h) [
  | inl here ↦ (let parts = and_parts (next.object == list) (is_within next t) here in
      let object : next.object ≡ list = eqb-true _ _ parts.0 in
      let first : next.first ≤ t = leb-true _ _ (and_parts (nat_le next.first t) (nat_le t next.last) parts.1).0 in
      elim (before_parts run next all.0) [
        | inl less ↦ absurd (omega arith)
        | inr apart ↦ (let gap : run.last + 1 < next.first = apart.1 in omega arith)
      ])
  | inr there ↦ covered_after list t run runs own all.1 there
]

covers_none : (floor list t : ℕ) (run : Span) → floor ≤ t → is_live_in floor list run ≡ false → covers list t run ≡ false
covers_none floor list t run le dead = elim (and_cases (run.object == list) (nat_le floor run.last) dead) [
  | inl other ↦ and_left (run.object == list) (is_within run t) other
  | inr below_it ↦ (let lt : run.last < floor = leb-false _ _ below_it in
      and_right (run.object == list) (is_within run t) (and_right (nat_le run.first t) (nat_le t run.last) (lt-leb t run.last (omega arith))))
]

-- a run of another list, or below the floor, adds nothing
covered_without : (floor list t : ℕ) (run : Span) (runs : List Span) → is_live_in floor list run ≡ false → is_covered floor (run ∷ runs) list t ≡ is_covered floor runs list t
covered_without floor list t run runs dead = elim (cases_Bool (nat_le floor t)) [
  | inl above ↦ ap (λ b. nat_le floor t && (b || list_any (covers list t) runs)) (covers_none floor list t run (leb-true _ _ above) dead)
  | inr under ↦ ap (λ b. b && (covers list t run || list_any (covers list t) runs)) under ∙ sym (ap (λ b. b && list_any (covers list t) runs) under)
]

pub count_cons : (p : Span → Bool) (run : Span) (runs : List Span) → count_by p (run ∷ runs) ≡ tally (p run) + count_by p runs
count_cons p run runs = sum_by-cons (λ x. cond (p x) 1 0) run runs

-- the runs of a list that reach the floor are as many as the model counts
below_live : (floor list n : ℕ) (runs : List Span) → Ascend runs → AllByRecursion (λ run. run.last < n) runs → below (is_first (is_covered floor runs list)) n ≡ count_by (is_live_in floor list) runs
below_live floor list n [] h ends = below-none (is_first (is_covered floor [] list)) n (λ t. and_left (nat_le floor t && false) (not (nat_lt 0 t && is_covered floor [] list (t - 1))) (and_right (nat_le floor t) false refl))
below_live floor list n (run ∷ runs) h ends =
    let rest : below (is_first (is_covered floor runs list)) n ≡ count_by (is_live_in floor list) runs = below_live floor list n runs h.2 ends.1 in
    let more : count_by (is_live_in floor list) (run ∷ runs) ≡ tally (is_live_in floor list run) + count_by (is_live_in floor list) runs = count_cons (is_live_in floor list) run runs in
    elim (cases_Bool (is_live_in floor list run)) [
      | inl alive ↦ (let parts = and_parts (run.object == list) (nat_le floor run.last) alive in
          let reached : floor ≤ run.last = leb-true _ _ parts.1 in
          let one : tally (is_live_in floor list run) ≡ 1 = ap tally alive in
          let count : below (is_first (is_covered floor (run ∷ runs) list)) n ≡ 1 + below (is_first (is_covered floor runs list)) n =
          apart_count (is_covered floor (run ∷ runs) list) (is_covered floor runs list) (max run.first floor) run.last n (omega (arith, h.0)) ends.0
          (λ t. covered_stretch floor list t run runs parts.0)
          (λ t is. covered_after list t run runs (eqb-true _ _ parts.0) h.1 (and_parts (nat_le floor t) (list_any (covers list t) runs) is).1) in
          omega arith)
      | inr dead ↦ (let none : tally (is_live_in floor list run) ≡ 0 = ap tally dead in
          let same : below (is_first (is_covered floor (run ∷ runs) list)) n ≡ below (is_first (is_covered floor runs list)) n =
          below-same _ _ n (λ t. first_same _ _ t (λ u. covered_without floor list u run runs dead)) in
          omega arith)
    ]

all_before : (clock : ℕ) (runs : List Span) → AllEndBy clock runs → AllByRecursion (λ run. run.last < clock + 1) runs
all_before clock [] ends = tt
all_before clock (run ∷ runs) ends = let e : run.last ≤ clock = ends.0 in (omega arith, all_before clock runs ends.1)

pub count_live : (floor list clock : ℕ) (runs : List Span) → Ascend runs → AllEndBy clock runs → run_count (is_covered floor runs list) clock ≡ count_by (is_live_in floor list) runs
count_live floor list clock runs h ends =
    count_by_range (is_first (is_covered floor runs list)) (clock + 1) ∙ below_live floor list (clock + 1) runs h (all_before clock runs ends)

-- of the lists below a number
abbrev is_live_below : ℕ → ℕ → Span → Bool
is_live_below floor next run = nat_lt run.object next && nat_le floor run.last

lt_next : (a k : ℕ) (b : Bool) → tally (nat_lt a (suc k) && b) ≡ tally (nat_lt a k && b) + tally (a == k && b)
lt_next a k b = elim (cases_order a k) [
  | inl e ↦ (let x : (nat_lt a (suc k) && b) ≡ b = ap (λ c. c && b) (lt-ltb a (suc k) (omega arith)) in
      let y : (nat_lt a k && b) ≡ false = and_left (nat_lt a k) b (le-ltb a k (omega arith)) in
      let z : (a == k && b) ≡ b = ap (λ c. c && b) (eq-eqb a k e) in
      let u : tally (nat_lt a (suc k) && b) ≡ tally b = ap tally x in
      let v : tally (nat_lt a k && b) ≡ 0 = ap tally y in
      let w : tally (a == k && b) ≡ tally b = ap tally z in
      omega arith)
  | inr (inl less) ↦ (let x : (nat_lt a (suc k) && b) ≡ b = ap (λ c. c && b) (lt-ltb a (suc k) (omega arith)) in
      let y : (nat_lt a k && b) ≡ b = ap (λ c. c && b) (lt-ltb a k less) in
      let z : (a == k && b) ≡ false = and_left (a == k) b (ne_eqb a k (λ (e : a ≡ k). omega arith)) in
      let u : tally (nat_lt a (suc k) && b) ≡ tally b = ap tally x in
      let v : tally (nat_lt a k && b) ≡ tally b = ap tally y in
      let w : tally (a == k && b) ≡ 0 = ap tally z in
      omega arith)
  | inr (inr more) ↦ (let x : (nat_lt a (suc k) && b) ≡ false = and_left (nat_lt a (suc k)) b (le-ltb a (suc k) (omega arith)) in
      let y : (nat_lt a k && b) ≡ false = and_left (nat_lt a k) b (le-ltb a k (omega arith)) in
      let z : (a == k && b) ≡ false = and_left (a == k) b (ne_eqb a k (λ (e : a ≡ k). omega arith)) in
      let u : tally (nat_lt a (suc k) && b) ≡ 0 = ap tally x in
      let v : tally (nat_lt a k && b) ≡ 0 = ap tally y in
      let w : tally (a == k && b) ≡ 0 = ap tally z in
      omega arith)
]

count_next : (floor k : ℕ) (runs : List Span) → count_by (is_live_below floor (suc k)) runs ≡ count_by (is_live_below floor k) runs + count_by (is_live_in floor k) runs
count_next floor k [] = refl
count_next floor k (run ∷ runs) =
    let rest : count_by (is_live_below floor (suc k)) runs ≡ count_by (is_live_below floor k) runs + count_by (is_live_in floor k) runs = count_next floor k runs in
    let a : count_by (is_live_below floor (suc k)) (run ∷ runs) ≡ tally (is_live_below floor (suc k) run) + count_by (is_live_below floor (suc k)) runs = count_cons (is_live_below floor (suc k)) run runs in
    let b : count_by (is_live_below floor k) (run ∷ runs) ≡ tally (is_live_below floor k run) + count_by (is_live_below floor k) runs = count_cons (is_live_below floor k) run runs in
    let c : count_by (is_live_in floor k) (run ∷ runs) ≡ tally (is_live_in floor k run) + count_by (is_live_in floor k) runs = count_cons (is_live_in floor k) run runs in
    let here : tally (is_live_below floor (suc k) run) ≡ tally (is_live_below floor k run) + tally (is_live_in floor k run) = lt_next run.object k (nat_le floor run.last) in
    omega arith

count_below_none : (floor : ℕ) (runs : List Span) → count_by (is_live_below floor 0) runs ≡ 0
count_below_none floor [] = refl
count_below_none floor (run ∷ runs) =
    let rest : count_by (is_live_below floor 0) runs ≡ 0 = count_below_none floor runs in
    let a : count_by (is_live_below floor 0) (run ∷ runs) ≡ tally (is_live_below floor 0 run) + count_by (is_live_below floor 0) runs = count_cons (is_live_below floor 0) run runs in
    let here : tally (is_live_below floor 0 run) ≡ 0 = ap tally (and_left (nat_lt run.object 0) (nat_le floor run.last) (le-ltb run.object 0 (omega arith))) in
    omega arith

count_given : (floor next : ℕ) (runs : List Span) → AllByRecursion (IsOfGiven next) runs → count_by (is_live_below floor next) runs ≡ count_by (is_live floor) runs
count_given floor next [] given = refl
count_given floor next (run ∷ runs) given =
    let rest : count_by (is_live_below floor next) runs ≡ count_by (is_live floor) runs = count_given floor next runs given.1 in
    let a : count_by (is_live_below floor next) (run ∷ runs) ≡ tally (is_live_below floor next run) + count_by (is_live_below floor next) runs = count_cons (is_live_below floor next) run runs in
    let b : count_by (is_live floor) (run ∷ runs) ≡ tally (is_live floor run) + count_by (is_live floor) runs = count_cons (is_live floor) run runs in
    let here : tally (is_live_below floor next run) ≡ tally (is_live floor run) = ap (λ c. tally (c && nat_le floor run.last)) (lt-ltb run.object next given.0) in
    omega arith

all_below : (floor clock k : ℕ) (runs : List Span) → Ascend runs → AllEndBy clock runs → run_count_of_all floor runs clock k ≡ count_by (is_live_below floor k) runs
all_below floor clock zero runs h ends = sym (count_below_none floor runs)
all_below floor clock (suc k) runs h ends =
    let before : run_count_of_all floor runs clock k ≡ count_by (is_live_below floor k) runs = all_below floor clock k runs h ends in
    let step : run_count_of_all floor runs clock (suc k) ≡ run_count_of_all floor runs clock k + run_count (is_covered floor runs k) clock = run_count_of_all-more floor clock k runs in
    let here : run_count (is_covered floor runs k) clock ≡ count_by (is_live_in floor k) runs = count_live floor k clock runs h ends in
    let next : count_by (is_live_below floor (suc k)) runs ≡ count_by (is_live_below floor k) runs + count_by (is_live_in floor k) runs = count_next floor k runs in
    omega arith

-- so are those of all lists, where all are of lists below next
pub count_live_of_all : (floor clock next : ℕ) (runs : List Span) → Ascend runs → AllEndBy clock runs → AllByRecursion (IsOfGiven next) runs → run_count_of_all floor runs clock next ≡ count_by (is_live floor) runs
count_live_of_all floor clock next runs h ends given = all_below floor clock next runs h ends ∙ count_given floor next runs given

-- spans that cover the same have as many runs in all lists
pub run_count_of_all-same : (floor clock k : ℕ) (xs ys : List Span) → ((list t : ℕ) → is_covered floor xs list t ≡ is_covered floor ys list t) → run_count_of_all floor xs clock k ≡ run_count_of_all floor ys clock k
run_count_of_all-same floor clock zero xs ys same = refl
run_count_of_all-same floor clock (suc k) xs ys same =
    let before : run_count_of_all floor xs clock k ≡ run_count_of_all floor ys clock k = run_count_of_all-same floor clock k xs ys same in
    let a : run_count_of_all floor xs clock (suc k) ≡ run_count_of_all floor xs clock k + run_count (is_covered floor xs k) clock = run_count_of_all-more floor clock k xs in
    let b : run_count_of_all floor ys clock (suc k) ≡ run_count_of_all floor ys clock k + run_count (is_covered floor ys k) clock = run_count_of_all-more floor clock k ys in
    let here : run_count (is_covered floor xs k) clock ≡ run_count (is_covered floor ys k) clock = run_count-same (is_covered floor xs k) (is_covered floor ys k) clock (λ t. same k t) in
    omega arith
