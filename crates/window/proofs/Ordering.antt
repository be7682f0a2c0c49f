-- Runs in order, and what a span put in or runs left out leave of the order.
use Rattle.std.proofs.Common.{◌≡◌, ◌⊎◌, inl, inr, ℕ, zero, suc, Bool, true, false, ◌==◌, ◌&&◌, ◌||◌, ◌+◌, ◌-◌, ◌<◌, ◌≤◌, nat_lt, min, List, [], ◌∷◌, ◌++◌, length, take, drop, get_or, filter, refl, sym, ap, subst, ◌∙◌, length-drop, arith}
use Rattle.std.specs.List.{AllByRecursion}
use Rattle.std.specs.List.Sorted.{IsPartitionPoint, IsPartitionedBy}
use Rattle.std.proofs.lemmas.Bool.{and_parts, and_from, and_cases, or_cases, or_parts, or_left, or_right, ltb-true, ltb-false, lt-ltb, eqb-true, eq-eqb, cond_both, cond-true, cond-false, both_ways}
use Rattle.std.proofs.lemmas.List.{take_all, drop_more}
use Rattle.s4_types.specs.declared.spans.Span.{Span}
use Rattle.window.specs.Runs.{is_before, IsBeforeAll, Ascend, joined_span, with_span}

-- a run is before another, by numbers
abbrev pub Before : Span → Span → Type 0
Before x y = (x.object < y.object) ⊎ ((x.object ≡ y.object) × (x.last + 1 < y.first))

pub before_parts : (x y : Span) → is_before x y ≡ true → Before x y
before_parts x y h =
    elim (or_cases (nat_lt x.object y.object) (x.object == y.object && nat_lt 1 (y.first - x.last)) h) [
      | inl e ↦ inl (ltb-true _ _ e)
      | inr e ↦ (let parts = and_parts (x.object == y.object) (nat_lt 1 (y.first - x.last)) e in
          let gap : 1 < y.first - x.last = ltb-true _ _ parts.1 in
          inr (eqb-true _ _ parts.0, omega arith))
    ]

pub before_from : (x y : Span) → Before x y → is_before x y ≡ true
before_from x y (inl lt) = or_left (nat_lt x.object y.object) (x.object == y.object && nat_lt 1 (y.first - x.last)) (lt-ltb _ _ lt)
before_from x y (inr h) =
    let gap : x.last + 1 < y.first = h.1 in
    or_right (nat_lt x.object y.object) (x.object == y.object && nat_lt 1 (y.first - x.last)) (and_from (x.object == y.object) (nat_lt 1 (y.first - x.last)) (eq-eqb _ _ h.0) (lt-ltb _ _ (omega arith)))

-- two runs of one list that overlap or touch
pub record Touch (x y : Span) : Type 0 where
  pub object : x.object ≡ y.object
  pub first : x.first ≤ y.last + 1
  pub last : y.first ≤ x.last + 1

no_gap : (a b l f : ℕ) → (nat_lt a b || (a == b && nat_lt 1 (f - l))) ≡ false → a ≡ b → f ≤ l + 1
no_gap a b l f h e =
    let parts = or_parts (nat_lt a b) (a == b && nat_lt 1 (f - l)) h in
    elim (and_cases (a == b) (nat_lt 1 (f - l)) parts.1) [
      | inl other ↦ absurd (both_ways (a == b) other (eq-eqb a b e))
      | inr near ↦ (let le : f - l ≤ 1 = ltb-false _ _ near in omega arith)
    ]

pub touch_from : (x y : Span) → is_before x y ≡ false → is_before y x ≡ false → Touch x y
touch_from x y h g =
    let a : y.object ≤ x.object = ltb-false _ _ (or_parts (nat_lt x.object y.object) (x.object == y.object && nat_lt 1 (y.first - x.last)) h).0 in
    let b : x.object ≤ y.object = ltb-false _ _ (or_parts (nat_lt y.object x.object) (y.object == x.object && nat_lt 1 (x.first - y.last)) g).0 in
    record {
      object = omega arith;
      first = no_gap y.object x.object y.last x.first g (omega arith);
      last = no_gap x.object y.object x.last y.first h (omega arith);
    }

Before-trans : (x y z : Span) → y.first ≤ y.last → Before x y → Before y z → Before x z
Before-trans x y z o (inl a) (inl b) = inl (omega arith)
Before-trans x y z o (inl a) (inr b) = let e : y.object ≡ z.object = b.0 in inl (omega arith)
Before-trans x y z o (inr a) (inl b) = let e : x.object ≡ y.object = a.0 in inl (omega arith)
Before-trans x y z o (inr a) (inr b) =
    let e : x.object ≡ y.object = a.0 in
    let f : y.object ≡ z.object = b.0 in
    let g : x.last + 1 < y.first = a.1 in
    let h : y.last + 1 < z.first = b.1 in
    inr (omega arith, omega arith)

pub before_trans : (x y z : Span) → y.first ≤ y.last → is_before x y ≡ true → is_before y z ≡ true → is_before x z ≡ true
before_trans x y z o a b = before_from x z (Before-trans x y z o (before_parts x y a) (before_parts y z b))

pub before_all : (x y : Span) (runs : List Span) → y.first ≤ y.last → is_before x y ≡ true → IsBeforeAll y runs → IsBeforeAll x runs
before_all x y [] o b all = tt
before_all x y (run ∷ runs) o b all = (before_trans x y run o b all.0, before_all x y runs o b all.1)

Before-joined_span : (k x y : Span) → Touch x y → Before k x → Before k y → Before k (joined_span x y)
Before-joined_span k x y touch (inl a) b = inl a
Before-joined_span k x y touch (inr a) (inl b) = let e : k.object ≡ x.object = a.0 in inl (omega (arith, touch.object))
Before-joined_span k x y touch (inr a) (inr b) =
    let g : k.last + 1 < x.first = a.1 in
    let h : k.last + 1 < y.first = b.1 in
    inr (a.0, omega arith)

pub before_joined : (k x y : Span) → Touch x y → is_before k x ≡ true → is_before k y ≡ true → is_before k (joined_span x y) ≡ true
before_joined k x y touch a b = before_from k (joined_span x y) (Before-joined_span k x y touch (before_parts k x a) (before_parts k y b))

pub before_with_span : (k span : Span) (runs : List Span) → is_before k span ≡ true → IsBeforeAll k runs → IsBeforeAll k (with_span span runs)
before_with_span k span [] b all = (b, tt)
before_with_span k span (run ∷ runs) b all =
    cond_both (is_before run span) _ _ (IsBeforeAll k)
    (λ _. (all.0, before_with_span k span runs b all.1))
    (λ later. cond_both (is_before span run) _ _ (IsBeforeAll k)
    (λ _. (b, all))
    (λ earlier. before_with_span k (joined_span span run) runs (before_joined k span run (touch_from span run earlier later) b all.0) all.1))

-- runs in order with one more span are in order
pub Ascend-with_span : (span : Span) (runs : List Span) → span.first ≤ span.last → Ascend runs → Ascend (with_span span runs)
Ascend-with_span span [] o h = (o, tt, tt)
Ascend-with_span span (run ∷ runs) o h =
    cond_both (is_before run span) _ _ Ascend
    (λ b. (h.0, before_with_span run span runs b h.1, Ascend-with_span span runs o h.2))
    (λ _. cond_both (is_before span run) _ _ Ascend
    (λ b. (o, (b, before_all span run runs h.0 b h.1), h))
    (λ _. Ascend-with_span (joined_span span run) runs (omega arith) h.2))

-- what holds of the runs and the span, and of what two make, holds of the runs with the span
pub all_with_span : (P : Span → Type 0) (span : Span) (runs : List Span) → ((x y : Span) → P x → P y → P (joined_span x y)) → P span → AllByRecursion P runs → AllByRecursion P (with_span span runs)
all_with_span P span [] both h all = (h, tt)
all_with_span P span (run ∷ runs) both h all =
    cond_both (is_before run span) _ _ (AllByRecursion P)
    (λ _. (all.0, all_with_span P span runs both h all.1))
    (λ _. cond_both (is_before span run) _ _ (AllByRecursion P)
    (λ _. (h, all))
    (λ _. all_with_span P (joined_span span run) runs both (both span run h all.0) all.1))

-- what holds of all runs holds of some of them
pub all_filter : (P : Span → Type 0) (p : Span → Bool) (runs : List Span) → AllByRecursion P runs → AllByRecursion P (filter p runs)
all_filter P p [] all = tt
all_filter P p (run ∷ runs) all =
    cond_both (p run) _ _ (AllByRecursion P) (λ _. (all.0, all_filter P p runs all.1)) (λ _. all_filter P p runs all.1)

pub Ascend-filter : (p : Span → Bool) (runs : List Span) → Ascend runs → Ascend (filter p runs)
Ascend-filter p [] h = tt
Ascend-filter p (run ∷ runs) h =
    cond_both (p run) _ _ Ascend (λ _. (h.0, all_filter _ p runs h.1, Ascend-filter p runs h.2)) (λ _. Ascend-filter p runs h.2)

-- what a span put in does at the first run: it goes past it, stops before it, or takes it in
pub with_span_past : (span run : Span) (runs : List Span) → is_before run span ≡ true → with_span span (run ∷ runs) ≡ run ∷ with_span span runs
with_span_past span run runs b = cond-true (is_before run span) _ _ b

pub with_span_before : (span run : Span) (runs : List Span) → is_before run span ≡ false → is_before span run ≡ true → with_span span (run ∷ runs) ≡ span ∷ run ∷ runs
with_span_before span run runs b c = cond-false (is_before run span) _ _ b ∙ cond-true (is_before span run) _ _ c

pub with_span_joined : (span run : Span) (runs : List Span) → is_before run span ≡ false → is_before span run ≡ false → with_span span (run ∷ runs) ≡ with_span (joined_span span run) runs
with_span_joined span run runs b c = cond-false (is_before run span) _ _ b ∙ cond-false (is_before span run) _ _ c

-- ---- where a span goes

later_before : (span run : Span) (runs : List Span) → IsBeforeAll run runs → run.first ≤ run.last → Ascend runs → (k : ℕ) (d : Span) → k < length runs → is_before (get_or runs k d) span ≡ true → is_before run span ≡ true
later_before span run [] all o h k d lt b = absurd (omega arith)
later_before span run (next ∷ runs) all o h zero d lt b = before_trans run next span h.0 all.0 b
later_before span run (next ∷ runs) all o h (suc k) d lt b = later_before span run runs all.1 o h.2 k d (omega arith) b

-- the runs before a span are in front of all others
pub before_in_front : (span : Span) (runs : List Span) → Ascend runs → IsPartitionedBy (λ run. is_before run span) runs
before_in_front span [] h i j d le lt b = absurd (omega arith)
before_in_front span (run ∷ runs) h zero zero d le lt b = b
before_in_front span (run ∷ runs) h zero (suc j) d le lt b = later_before span run runs h.1 h.0 h.2 j d (omega arith) b
before_in_front span (run ∷ runs) h (suc i) zero d le lt b = absurd (omega arith)
before_in_front span (run ∷ runs) h (suc i) (suc j) d le lt b = before_in_front span runs h.2 i j d (omega arith) (omega arith) b

-- so a span goes past these
pub span_behind : (span : Span) (runs : List Span) (i : ℕ) → IsPartitionPoint (λ run. is_before run span ≡ true) (λ run. is_before run span ≡ false) runs i → take i runs ++ with_span span (drop i runs) ≡ with_span span runs
span_behind span [] zero point = refl
span_behind span [] (suc i) point = refl
span_behind span (run ∷ runs) zero point = refl
span_behind span (run ∷ runs) (suc i) point =
    ap (λ xs. run ∷ xs) (span_behind span runs i (λ k d low high. point.0 (suc k) d (omega arith) (omega arith), λ k d low high. point.1 (suc k) d (omega arith) (omega arith)))
    ∙ sym (with_span_past span run runs (point.0 0 run (omega arith) (omega arith)))

-- no run is before a span
abbrev pub NoneBefore : Span → List Span → Type 0
NoneBefore span runs = AllByRecursion (λ run. is_before run span ≡ false) runs

-- and none of those after does
pub none_before : (span : Span) (runs : List Span) (i : ℕ) → IsPartitionPoint (λ run. is_before run span ≡ true) (λ run. is_before run span ≡ false) runs i → NoneBefore span (drop i runs)
none_before span [] zero point = tt
none_before span [] (suc i) point = tt
none_before span (run ∷ runs) zero point =
    (point.1 0 run (omega arith) (omega arith), none_before span runs zero (λ k d low high. absurd (omega arith), λ k d low high. point.1 (suc k) d (omega arith) (omega arith)))
none_before span (run ∷ runs) (suc i) point =
    none_before span runs i (λ k d low high. point.0 (suc k) d (omega arith) (omega arith), λ k d low high. point.1 (suc k) d (omega arith) (omega arith))

Before-joined : (next span run : Span) → Before next (joined_span span run) → Before next span
Before-joined next span run (inl a) = inl a
Before-joined next span run (inr a) = let gap : next.last + 1 < min span.first run.first = a.1 in inr (a.0, omega arith)

not_before_joined : (next span run : Span) (b : Bool) → is_before next (joined_span span run) ≡ b → is_before next span ≡ false → b ≡ false
not_before_joined next span run true is none = absurd (both_ways (is_before next span) none (before_from next span (Before-joined next span run (before_parts next (joined_span span run) is))))
not_before_joined next span run false is none = refl

-- nor does one are before what the span and a run make
pub none_before_joined : (span run : Span) (runs : List Span) → NoneBefore span runs → NoneBefore (joined_span span run) runs
none_before_joined span run [] none = tt
none_before_joined span run (next ∷ runs) none = (not_before_joined next span run (is_before next (joined_span span run)) refl none.0, none_before_joined span run runs none.1)

-- so what is put before a span are the runs before it
pub span_placed : (span : Span) (runs front back all : List Span) (i : ℕ) → IsPartitionPoint (λ run. is_before run span ≡ true) (λ run. is_before run span ≡ false) runs i → front ≡ take i runs → back ≡ drop i runs → all ≡ front
    → (all ++ with_span span back ≡ with_span span runs) × NoneBefore span back
span_placed span runs front back all i point in_front behind is = (
  ap (λ xs. xs ++ with_span span back) (is ∙ in_front) ∙ ap (λ xs. take i runs ++ with_span span xs) behind ∙ span_behind span runs i point,
  subst (NoneBefore span) (sym behind) (none_before span runs i point),
)

at_next : (behind : List Span) (i : ℕ) (run : Span) → i < length behind → run ≡ get_or behind i run → drop i behind ≡ run ∷ drop (i + 1) behind
at_next behind i run lt is = drop_more behind i run lt ∙ ap (λ (x : Span). x ∷ drop (i + 1) behind) (sym is)

-- a span before the next run is before all that are left
pub span_stops : (added span run : Span) (runs all behind : List Span) (i : ℕ) → i < length behind → run ≡ get_or behind i run → is_before span run ≡ true → all ++ with_span span (drop i behind) ≡ with_span added runs → NoneBefore span (drop i behind)
    → all ++ span ∷ take (length behind - i) (drop i behind) ≡ with_span added runs
span_stops added span run runs all behind i lt is before made none =
    let next : drop i behind ≡ run ∷ drop (i + 1) behind = at_next behind i run lt is in
    let later : NoneBefore span (run ∷ drop (i + 1) behind) = subst (NoneBefore span) next none in
    ap (λ xs. all ++ span ∷ xs) (take_all (length behind - i) (drop i behind) (omega (arith, length-drop i behind)))
    ∙ ap (λ xs. all ++ span ∷ xs) next
    ∙ sym (ap (λ xs. all ++ xs) (ap (with_span span) next ∙ with_span_before span run (drop (i + 1) behind) later.0 before))
    ∙ made

-- and else it takes the run in
pub span_takes : (added span run joined : Span) (runs all behind : List Span) (i : ℕ) → i < length behind → run ≡ get_or behind i run → is_before span run ≡ false → joined ≡ joined_span span run
    → all ++ with_span span (drop i behind) ≡ with_span added runs → NoneBefore span (drop i behind)
    → (all ++ with_span joined (drop (i + 1) behind) ≡ with_span added runs) × NoneBefore joined (drop (i + 1) behind)
span_takes added span run joined runs all behind i lt is apart one made none =
    let next : drop i behind ≡ run ∷ drop (i + 1) behind = at_next behind i run lt is in
    let later : NoneBefore span (run ∷ drop (i + 1) behind) = subst (NoneBefore span) next none in
    let P : Span → Type 0 = λ x. (all ++ with_span x (drop (i + 1) behind) ≡ with_span added runs) × NoneBefore x (drop (i + 1) behind) in
    subst P (sym one) (
      sym (ap (λ xs. all ++ xs) (ap (with_span span) next ∙ with_span_joined span run (drop (i + 1) behind) later.0 apart)) ∙ made,
      none_before_joined span run (drop (i + 1) behind) later.1,
    )
