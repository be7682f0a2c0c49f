-- The spans of an image are runs of a window.
use Rattle.std.proofs.Common.{◌≡◌, ◌⊎◌, ℕ, ◌+◌, ◌-◌, ◌<◌, ◌≤◌, true, eqb, ltb, ◌&&◌, List, [], ◌∷◌, inl, inr, arith}
use Rattle.std.specs.List.{AllByRecursion}
use Rattle.std.proofs.lemmas.Bool.{or_cases, and_parts, and_from, ltb-true, eqb-true, lt-ltb, eq-eqb, or_left, or_right}
use Rattle.s4_types.specs.declared.spans.Span.{Span}
use Rattle.s4_model.specs.Sound.{IsOfGiven}
use Rattle.image_parts.specs.declared.headers.Header.{Header}
use Rattle.image_parts.specs.Spans.{KeepsSpanRules, BeginsList, GoesOn, SpansFollow, SpansKeep}
use Rattle.window.specs.Runs.{is_before, IsBeforeAll, Ascend, AllBeginFrom, AllEndBefore}

-- ---- one before another

abbrev IsBefore : Span → Span → Type 0
IsBefore x y = (x.object < y.object) ⊎ ((x.object ≡ y.object) × (1 < y.first - x.last))

before_told : (x y : Span) → IsBefore x y → is_before x y ≡ true
before_told x y (inl less) = or_left (ltb x.object y.object) (eqb x.object y.object && ltb 1 (y.first - x.last)) (lt-ltb x.object y.object less)
before_told x y (inr same) = or_right (ltb x.object y.object) (eqb x.object y.object && ltb 1 (y.first - x.last)) (and_from (eqb x.object y.object) (ltb 1 (y.first - x.last)) (eq-eqb x.object y.object same.0) (lt-ltb 1 (y.first - x.last) same.1))

before_is : (x y : Span) → is_before x y ≡ true → IsBefore x y
before_is x y e = elim (or_cases (ltb x.object y.object) (eqb x.object y.object && ltb 1 (y.first - x.last)) e) [
  | inl less ↦ inl (ltb-true x.object y.object less)
  | inr same ↦ (let both = and_parts (eqb x.object y.object) (ltb 1 (y.first - x.last)) same in inr (eqb-true x.object y.object both.0, ltb-true 1 (y.first - x.last) both.1))
]

through : (x y z : Span) → IsBefore x y → y.first ≤ y.last → IsBefore y z → IsBefore x z
through x y z (inl a) order (inl b) = inl (omega arith)
through x y z (inl a) order (inr b) = inl (omega (arith, b.0))
through x y z (inr a) order (inl b) = inl (omega (arith, a.0))
through x y z (inr a) order (inr b) = inr (omega (arith, a.0, b.0), omega (arith, a.1, b.1))

before_rest : (x y : Span) (runs : List Span) → IsBefore x y → y.first ≤ y.last → IsBeforeAll y runs → IsBeforeAll x runs
before_rest x y [] before order all = tt
before_rest x y (z ∷ runs) before order all = (before_told x z (through x y z before order (before_is y z all.0)), before_rest x y runs before order all.1)

-- ---- all spans

next_before : (h : Header) (before : Span) (nth : ℕ) (s : Span) (spans : List Span) → ((BeginsList before s × SpansFollow h s 1 spans) ⊎ (GoesOn before nth s × SpansFollow h s (nth + 1) spans)) → IsBefore before s
next_before h before nth s spans (inl begins) = inl begins.0
next_before h before nth s spans (inr goes) = let on : GoesOn before nth s = goes.0 in inr (on.0, omega (arith, on.1))

next_follow : (h : Header) (before : Span) (nth : ℕ) (s : Span) (spans : List Span) → ((BeginsList before s × SpansFollow h s 1 spans) ⊎ (GoesOn before nth s × SpansFollow h s (nth + 1) spans)) → (n : ℕ) × SpansFollow h s n spans
next_follow h before nth s spans (inl begins) = (1, begins.1)
next_follow h before nth s spans (inr goes) = (nth + 1, goes.1)

-- what comes after a span comes after it, in order
order_behind : (h : Header) (before : Span) (nth : ℕ) (spans : List Span) → SpansFollow h before nth spans → IsBeforeAll before spans × Ascend spans
order_behind h before nth [] follow = (tt, tt)
order_behind h before nth (s ∷ spans) follow =
    let one : IsBefore before s = next_before h before nth s spans follow.1 in
    let (n, rest) = next_follow h before nth s spans follow.1 in
    let (all, ascend) = order_behind h s n spans rest in
    ((before_told before s one, before_rest before s spans one follow.0.order all), (follow.0.order, all, ascend))

pub spans_ascend : (h : Header) (spans : List Span) → SpansKeep h spans → Ascend spans
spans_ascend h [] keep = tt
spans_ascend h (s ∷ spans) keep = let (all, ascend) = order_behind h s 1 spans keep.1 in (keep.0.order, all, ascend)

each_behind : (h : Header) (before : Span) (nth : ℕ) (spans : List Span) → SpansFollow h before nth spans → AllByRecursion (KeepsSpanRules h) spans
each_behind h before nth [] follow = tt
each_behind h before nth (s ∷ spans) follow = let (n, rest) = next_follow h before nth s spans follow.1 in (follow.0, each_behind h s n spans rest)

each_keeps : (h : Header) (spans : List Span) → SpansKeep h spans → AllByRecursion (KeepsSpanRules h) spans
each_keeps h [] keep = tt
each_keeps h (s ∷ spans) keep = (keep.0, each_behind h s 1 spans keep.1)

from_floor : (h : Header) (spans : List Span) → AllByRecursion (KeepsSpanRules h) spans → AllBeginFrom h.floor spans
from_floor h [] all = tt
from_floor h (s ∷ spans) all = (all.0.floor, from_floor h spans all.1)

before_clock : (h : Header) (spans : List Span) → AllByRecursion (KeepsSpanRules h) spans → AllEndBefore h.clock spans
before_clock h [] all = tt
before_clock h (s ∷ spans) all = (all.0.clock, before_clock h spans all.1)

of_given : (h : Header) (spans : List Span) → AllByRecursion (KeepsSpanRules h) spans → AllByRecursion (IsOfGiven h.next) spans
of_given h [] all = tt
of_given h (s ∷ spans) all = (all.0.given, of_given h spans all.1)

pub spans_from_floor : (h : Header) (spans : List Span) → SpansKeep h spans → AllBeginFrom h.floor spans
spans_from_floor h spans keep = from_floor h spans (each_keeps h spans keep)

pub spans_past : (h : Header) (spans : List Span) → SpansKeep h spans → AllEndBefore h.clock spans
spans_past h spans keep = before_clock h spans (each_keeps h spans keep)

pub spans_given : (h : Header) (spans : List Span) → SpansKeep h spans → AllByRecursion (IsOfGiven h.next) spans
spans_given h spans keep = of_given h spans (each_keeps h spans keep)
