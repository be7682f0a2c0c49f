-- The runs of a set of moments are its maximal ones.
use Rattle.std.proofs.Common.{◌≡◌, ℕ, zero, suc, ◌+◌, ◌-◌, ◌<◌, ◌≤◌, ◌&&◌, not, Bool, true, false, cond, leb, ltb, inl, inr, List, [], ◌∷◌, length, filter, zip, count_by, refl, ap, sym, ◌∙◌, subst, arith}
use Rattle.std.proofs.lemmas.Bool.{cases_Bool, cases_eq, le-leb, lt-leb, lt-ltb, and_left, and_right, and_from}
use Rattle.std.proofs.lemmas.List.Sums.{sum_by-cons, length-filter}
use Rattle.std.specs.List.{range_with_len, AllByRecursion}
use Rattle.s4_model.specs.Runs.{is_first, is_last, runs_of}
use Rattle.s4_model.specs.Laws.{AreApart, is_in_run, AreRunsOf}

-- the moments from s on, n of them, at which runs begin, and at which they end
abbrev firsts : (ℕ → Bool) → ℕ → ℕ → List ℕ
firsts set s n = filter (is_first set) (range_with_len s n)

abbrev lasts : (ℕ → Bool) → ℕ → ℕ → List ℕ
lasts set s n = filter (is_last set) (range_with_len s n)

first_here : (set : ℕ → Bool) (s n : ℕ) → is_first set s ≡ true → firsts set s (suc n) ≡ s ∷ firsts set (s + 1) n
first_here set s n e = ap (λ b. cond b (s ∷ firsts set (s + 1) n) (firsts set (s + 1) n)) e

first_not_here : (set : ℕ → Bool) (s n : ℕ) → is_first set s ≡ false → firsts set s (suc n) ≡ firsts set (s + 1) n
first_not_here set s n e = ap (λ b. cond b (s ∷ firsts set (s + 1) n) (firsts set (s + 1) n)) e

last_here : (set : ℕ → Bool) (s n : ℕ) → is_last set s ≡ true → lasts set s (suc n) ≡ s ∷ lasts set (s + 1) n
last_here set s n e = ap (λ b. cond b (s ∷ lasts set (s + 1) n) (lasts set (s + 1) n)) e

last_not_here : (set : ℕ → Bool) (s n : ℕ) → is_last set s ≡ false → lasts set s (suc n) ≡ lasts set (s + 1) n
last_not_here set s n e = ap (λ b. cond b (s ∷ lasts set (s + 1) n) (lasts set (s + 1) n)) e

-- whether the moment before is in the set
abbrev before : (ℕ → Bool) → ℕ → Bool
before set s = ltb 0 s && set (s - 1)

before_next : (set : ℕ → Bool) (s : ℕ) → before set (s + 1) ≡ set s
before_next set s = ap (λ b. b && set (s + 1 - 1)) (lt-ltb 0 (s + 1) (omega arith)) ∙ ap set (let e : s + 1 - 1 ≡ s = omega arith in e)

is_first_of : (set : ℕ → Bool) (s : ℕ) (a b : Bool) → set s ≡ a → before set s ≡ b → is_first set s ≡ (a && not b)
is_first_of set s a b e f = ap (λ x. x && not (before set s)) e ∙ ap (λ x. a && not x) f

is_last_of : (set : ℕ → Bool) (s : ℕ) (a b : Bool) → set s ≡ a → set (s + 1) ≡ b → is_last set s ≡ (a && not b)
is_last_of set s a b e f = ap (λ x. x && not (set (s + 1))) e ∙ ap (λ x. a && not x) f

-- how often a run more counts
count_in : (t first last : ℕ) (runs : List (ℕ × ℕ)) → first ≤ t → t ≤ last → count_by (is_in_run t) ((first, last) ∷ runs) ≡ 1 + count_by (is_in_run t) runs
count_in t first last runs low high =
    sum_by-cons (λ run. cond (is_in_run t run) 1 0) (first, last) runs
    ∙ ap (λ b. cond b 1 0 + count_by (is_in_run t) runs) (and_from (leb first t) (leb t last) (le-leb first t low) (le-leb t last high))

count_below : (t first last : ℕ) (runs : List (ℕ × ℕ)) → t < first → count_by (is_in_run t) ((first, last) ∷ runs) ≡ count_by (is_in_run t) runs
count_below t first last runs lt =
    sum_by-cons (λ run. cond (is_in_run t run) 1 0) (first, last) runs
    ∙ ap (λ b. cond b 1 0 + count_by (is_in_run t) runs) (and_left (leb first t) (leb t last) (lt-leb first t lt))
    ∙ (let none : 0 + count_by (is_in_run t) runs ≡ count_by (is_in_run t) runs = omega arith in none)

count_above : (t first last : ℕ) (runs : List (ℕ × ℕ)) → last < t → count_by (is_in_run t) ((first, last) ∷ runs) ≡ count_by (is_in_run t) runs
count_above t first last runs lt =
    sum_by-cons (λ run. cond (is_in_run t run) 1 0) (first, last) runs
    ∙ ap (λ b. cond b 1 0 + count_by (is_in_run t) runs) (and_right (leb first t) (leb t last) (lt-leb t last lt))
    ∙ (let none : 0 + count_by (is_in_run t) runs ≡ count_by (is_in_run t) runs = omega arith in none)

AreApart-lower : (low high : ℕ) (runs : List (ℕ × ℕ)) → low ≤ high → AreApart high runs → AreApart low runs
AreApart-lower low high [] le apart = tt
AreApart-lower low high (run ∷ runs) le apart = let begins : high ≤ run.0 = apart.0 in (omega arith, apart.1, apart.2)

-- below where they begin no run has a moment
AreApart-none : (t low : ℕ) (runs : List (ℕ × ℕ)) → AreApart low runs → t < low → count_by (is_in_run t) runs ≡ 0
AreApart-none t low [] apart lt = refl
AreApart-none t low (run ∷ runs) apart lt =
    let begins : low ≤ run.0 = apart.0 in
    let ends : run.0 ≤ run.1 = apart.1 in
    count_below t run.0 run.1 runs (omega arith) ∙ AreApart-none t (run.1 + 2) runs apart.2 (omega arith)

-- whether a run ends before a moment
abbrev EndsBelow : ℕ → ℕ × ℕ → Type 0
EndsBelow t run = run.1 < t

all_below : (low high : ℕ) (runs : List (ℕ × ℕ)) → low ≤ high → AllByRecursion (EndsBelow low) runs → AllByRecursion (EndsBelow high) runs
all_below low high [] le ended = tt
all_below low high (run ∷ runs) le ended = let first : run.1 < low = ended.0 in (omega arith, all_below low high runs le ended.1)

-- What is shown of the runs that begin at s or later, where none is open there.
record Closed (set : ℕ → Bool) (s n : ℕ) (runs : List (ℕ × ℕ)) : Type 0 where
  apart : AreApart s runs
  ended : AllByRecursion (EndsBelow (s + n)) runs
  cover : (t : ℕ) → s ≤ t → t < s + n → count_by (is_in_run t) runs ≡ cond (set t) 1 0
  count : length runs ≡ length (firsts set s n)

-- And where s is in the set, in a run that began at f: with this run in front.
record Open (set : ℕ → Bool) (s n f : ℕ) (runs : List (ℕ × ℕ)) : Type 0 where
  apart : AreApart f runs
  ended : AllByRecursion (EndsBelow (s + suc n)) runs
  held : (t : ℕ) → f ≤ t → t ≤ s → count_by (is_in_run t) runs ≡ 1
  cover : (t : ℕ) → s < t → t < s + suc n → count_by (is_in_run t) runs ≡ cond (set t) 1 0
  count : length runs ≡ 1 + length (firsts set (s + 1) n)

abbrev closed_runs : (ℕ → Bool) → ℕ → ℕ → List (ℕ × ℕ)
closed_runs set s n = zip (firsts set s n) (lasts set s n)

abbrev open_runs : (ℕ → Bool) → ℕ → ℕ → ℕ → List (ℕ × ℕ)
open_runs set s n f = zip (f ∷ firsts set (s + 1) n) (lasts set s (suc n))

abbrev AllClosed : (ℕ → Bool) → ℕ → Type 0
AllClosed set n = (s : ℕ) → set (s + n) ≡ false → before set s ≡ false → Closed set s n (closed_runs set s n)

abbrev AllOpen : (ℕ → Bool) → ℕ → Type 0
AllOpen set n = (s f : ℕ) → set (s + suc n) ≡ false → f ≤ s → set s ≡ true → Open set s n f (open_runs set s n f)

cond_at : (set : ℕ → Bool) (t s : ℕ) (b : Bool) → t ≡ s → set s ≡ b → cond (set t) 1 0 ≡ cond {A = ℕ} b 1 0
cond_at set t s b e f = ap (λ x. cond (set x) 1 0) e ∙ ap (λ x. cond {A = ℕ} x 1 0) f

-- no run is open at s, and s isn't in the set
closed_past : (set : ℕ → Bool) (s n : ℕ) (runs : List (ℕ × ℕ)) → set s ≡ false → before set s ≡ false → Closed set (s + 1) n runs → Closed set s (suc n) runs
closed_past set s n runs out none rest = record {
  apart = AreApart-lower s (s + 1) runs (omega arith) rest.apart;
  ended = all_below (s + 1 + n) (s + suc n) runs (omega arith) rest.ended;
  cover = λ t le lt. elim (cases_eq t s) as (λ _. count_by (is_in_run t) runs ≡ cond (set t) 1 0) [
    | inl e ↦ AreApart-none t (s + 1) runs rest.apart (omega arith) ∙ sym (cond_at set t s false e out)
    | inr other ↦ rest.cover t (omega arith) (omega arith)
  ];
  count = rest.count ∙ ap length (sym (first_not_here set s n (is_first_of set s false false out none)));
}

-- a run begins at s
closed_begins : (set : ℕ → Bool) (s n : ℕ) (runs : List (ℕ × ℕ)) → set s ≡ true → before set s ≡ false → Open set s n s runs → Closed set s (suc n) runs
closed_begins set s n runs is none rest = record {
  apart = rest.apart;
  ended = rest.ended;
  cover = λ t le lt. elim (cases_eq t s) as (λ _. count_by (is_in_run t) runs ≡ cond (set t) 1 0) [
    | inl e ↦ rest.held t le (omega arith) ∙ sym (cond_at set t s true e is)
    | inr other ↦ rest.cover t (omega arith) lt
  ];
  count = rest.count ∙ (let more : 1 + length (firsts set (s + 1) n) ≡ length (s ∷ firsts set (s + 1) n) = omega arith in more) ∙ ap length (sym (first_here set s n (is_first_of set s true false is none)));
}

-- the run goes on past s
open_goes_on : (set : ℕ → Bool) (s n f : ℕ) (runs : List (ℕ × ℕ)) → f ≤ s → set s ≡ true → set (s + 1) ≡ true → Open set (s + 1) n f runs → Open set s (suc n) f runs
open_goes_on set s n f runs low is on rest = record {
  apart = rest.apart;
  ended = all_below (s + 1 + suc n) (s + suc (suc n)) runs (omega arith) rest.ended;
  held = λ t le ge. rest.held t le (omega arith);
  cover = λ t lt end. elim (cases_eq t (s + 1)) as (λ _. count_by (is_in_run t) runs ≡ cond (set t) 1 0) [
    | inl e ↦ rest.held t (omega arith) (omega arith) ∙ sym (cond_at set t (s + 1) true e on)
    | inr other ↦ rest.cover t (omega arith) (omega arith)
  ];
  count = rest.count ∙ ap (λ all. 1 + length all) (sym (first_not_here set (s + 1) n (is_first_of set (s + 1) true true on (before_next set s ∙ is))));
}

-- the run ends at s, and there are no moments left
open_ends_all : (set : ℕ → Bool) (s f : ℕ) → f ≤ s → Open set s 0 f ((f, s) ∷ [])
open_ends_all set s f low = record {
  apart = (omega arith, low, tt);
  ended = (omega arith, tt);
  held = λ t le ge. count_in t f s [] le ge;
  cover = λ t lt end. absurd (omega arith);
  count = refl;
}

-- the run ends at s, and others may begin two moments later
open_ends : (set : ℕ → Bool) (s n f : ℕ) (runs : List (ℕ × ℕ)) → f ≤ s → set s ≡ true → set (s + 1) ≡ false → Closed set (s + 1 + 1) n runs → Open set s (suc n) f ((f, s) ∷ runs)
open_ends set s n f runs low is off rest =
    let apart : AreApart (s + 2) runs = AreApart-lower (s + 2) (s + 1 + 1) runs (omega arith) rest.apart in
    record {
      apart = (omega arith, low, apart);
      ended = (omega arith, all_below (s + 1 + 1 + n) (s + suc (suc n)) runs (omega arith) rest.ended);
      held = λ t le ge. count_in t f s runs le ge ∙ ap (λ n. 1 + n) (AreApart-none t (s + 2) runs apart (omega arith));
      cover = λ t lt end. count_above t f s runs lt ∙ elim (cases_eq t (s + 1)) as (λ _. count_by (is_in_run t) runs ≡ cond (set t) 1 0) [
        | inl e ↦ AreApart-none t (s + 2) runs apart (omega arith) ∙ sym (cond_at set t (s + 1) false e off)
        | inr other ↦ rest.cover t (omega arith) (omega arith)
      ];
      count =
          (let more : length ((f, s) ∷ runs) ≡ 1 + length runs = omega arith in more)
          ∙ ap (λ n. 1 + n) (rest.count ∙ ap length (sym (first_not_here set (s + 1) n (is_first_of set (s + 1) false true off (before_next set s ∙ is)))));
    }

open_runs-on : (set : ℕ → Bool) (s n f : ℕ) → set s ≡ true → set (s + 1) ≡ true → open_runs set s (suc n) f ≡ open_runs set (s + 1) n f
open_runs-on set s n f is on =
    ap (λ begins. zip (f ∷ begins) (lasts set s (suc (suc n)))) (first_not_here set (s + 1) n (is_first_of set (s + 1) true true on (before_next set s ∙ is)))
    ∙ ap (λ ends. zip (f ∷ firsts set (s + 1 + 1) n) ends) (last_not_here set s (suc n) (is_last_of set s true true is on))

open_runs-end : (set : ℕ → Bool) (s n f : ℕ) → set s ≡ true → set (s + 1) ≡ false → open_runs set s n f ≡ (f, s) ∷ closed_runs set (s + 1) n
open_runs-end set s n f is off = ap (λ ends. zip (f ∷ firsts set (s + 1) n) ends) (last_here set s n (is_last_of set s true false is off))

-- where s isn't in the set, nothing begins or ends there
closed_runs-out : (set : ℕ → Bool) (s n : ℕ) → set s ≡ false → closed_runs set s (suc n) ≡ closed_runs set (s + 1) n
closed_runs-out set s n out =
    ap (λ begins. zip begins (lasts set s (suc n))) (first_not_here set s n (and_left (set s) (not (before set s)) out))
    ∙ ap (λ ends. zip (firsts set (s + 1) n) ends) (last_not_here set s n (and_left (set s) (not (set (s + 1))) out))

closed_runs-begin : (set : ℕ → Bool) (s n : ℕ) → set s ≡ true → before set s ≡ false → closed_runs set s (suc n) ≡ open_runs set s n s
closed_runs-begin set s n is none = ap (λ begins. zip begins (lasts set s (suc n))) (first_here set s n (is_first_of set s true false is none))

same_place : (set : ℕ → Bool) (a b : ℕ) (v : Bool) → a ≡ b → set a ≡ v → set b ≡ v
same_place set a b v e h = subst (λ x. set x ≡ v) e h

closed_step : (set : ℕ → Bool) (n : ℕ) → AllClosed set n → AllOpen set n → AllClosed set (suc n)
closed_step set n closed open_too s end none = elim (cases_Bool (set s)) as (λ _. Closed set s (suc n) (closed_runs set s (suc n))) [
  | inl is ↦ subst (Closed set s (suc n)) (sym (closed_runs-begin set s n is none)) (closed_begins set s n (open_runs set s n s) is none (open_too s s end (omega arith) is))
  | inr out ↦ subst (Closed set s (suc n)) (sym (closed_runs-out set s n out))
      (closed_past set s n (closed_runs set (s + 1) n) out none (closed (s + 1) (same_place set (s + suc n) (s + 1 + n) false (omega arith) end) (before_next set s ∙ out)))
]

open_none : (set : ℕ → Bool) → AllOpen set 0
open_none set s f end low is =
    let off : set (s + 1) ≡ false = same_place set (s + suc 0) (s + 1) false (omega arith) end in
    subst (Open set s 0 f) (sym (open_runs-end set s 0 f is off)) (open_ends_all set s f low)

open_step : (set : ℕ → Bool) (n : ℕ) → AllClosed set n → AllOpen set n → AllOpen set (suc n)
open_step set n closed open_too s f end low is = elim (cases_Bool (set (s + 1))) as (λ _. Open set s (suc n) f (open_runs set s (suc n) f)) [
  | inl on ↦ subst (Open set s (suc n) f) (sym (open_runs-on set s n f is on))
      (open_goes_on set s n f (open_runs set (s + 1) n f) low is on (open_too (s + 1) f (same_place set (s + suc (suc n)) (s + 1 + suc n) false (omega arith) end) (omega arith) on))
  | inr off ↦ subst (Open set s (suc n) f) (sym (open_runs-end set s (suc n) f is off ∙ ap (λ rest. (f, s) ∷ rest) (closed_runs-out set (s + 1) n off)))
      (open_ends set s n f (closed_runs set (s + 1 + 1) n) low is off (closed (s + 1 + 1) (same_place set (s + suc (suc n)) (s + 1 + 1 + n) false (omega arith) end) (before_next set (s + 1) ∙ off)))
]

closed_none : (set : ℕ → Bool) → AllClosed set 0
closed_none set s end none = record { apart = tt; ended = tt; cover = λ t le lt. absurd (omega arith); count = refl }

all_runs : (set : ℕ → Bool) (n : ℕ) → AllClosed set n × AllOpen set n
all_runs set zero = (closed_none set, open_none set)
all_runs set (suc n) = let below : AllClosed set n × AllOpen set n = all_runs set n in (closed_step set n below.0 below.1, open_step set n below.0 below.1)

up_to_clock : (clock : ℕ) (runs : List (ℕ × ℕ)) → AllByRecursion (EndsBelow (0 + (clock + 1))) runs → AllByRecursion (λ run. run.1 ≤ clock) runs
up_to_clock clock [] ended = tt
up_to_clock clock (run ∷ runs) ended = let first : run.1 < 0 + (clock + 1) = ended.0 in (omega arith, up_to_clock clock runs ended.1)

AreRunsOf-closed : (set : ℕ → Bool) (clock : ℕ) → Closed set 0 (clock + 1) (runs_of set clock) → AreRunsOf set clock (runs_of set clock)
AreRunsOf-closed set clock closed = record {
  apart = closed.apart;
  reached = up_to_clock clock (runs_of set clock) closed.ended;
  cover = λ t le. closed.cover t (omega arith) (omega arith);
  count = closed.count ∙ length-filter (is_first set) (range_with_len 0 (clock + 1));
}

pub runs_are_maximal : (set : ℕ → Bool) (clock : ℕ) → set (clock + 1) ≡ false → AreRunsOf set clock (runs_of set clock)
runs_are_maximal set clock end = AreRunsOf-closed set clock ((all_runs set (clock + 1)).0 0 (same_place set (clock + 1) (0 + (clock + 1)) false (omega arith) end) refl)
