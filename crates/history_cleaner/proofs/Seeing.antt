-- What can be seen of an object, as a test and as a fact.
use Rattle.std.proofs.Common.{◌≡◌, ℕ, zero, suc, ◌+◌, ◌-◌, ◌<◌, ◌≤◌, ◌&&◌, Bool, true, false, leb, inl, inr, refl, sym, ap, ◌∙◌, arith}
use Rattle.std.specs.Prelude.{not, MatchBool}
use Rattle.std.specs.List.{list_any, range_with_len}
use Rattle.std.proofs.lemmas.Bool.{cases_Bool, cases_lt, and_parts, or_cases, both_ways, leb-true, le-leb, not-true, or_left, or_right, and_from}
use Rattle.s4_model.specs.State.{State}
use Rattle.s4_model.specs.Visible.{IsVisible, IsSeenBetween, is_hidden}
use Rattle.chain_rewriting.specs.CleaningLaws.{FitsSight}
use Rattle.history_cleaner.specs.Sight.{is_visible, is_seen_between}

pub visible_true : (s : State) (o t : ℕ) → IsVisible s o t → is_visible s o t ≡ true
visible_true s o t h =
    and_from (leb s.floor t) (leb t s.clock && not (is_hidden s o t)) (le-leb s.floor t h.kept)
    (and_from (leb t s.clock) (not (is_hidden s o t)) (le-leb t s.clock h.reached) (ap not h.shown))

pub true_visible : (s : State) (o t : ℕ) → is_visible s o t ≡ true → IsVisible s o t
true_visible s o t h =
    let all = and_parts (leb s.floor t) (leb t s.clock && not (is_hidden s o t)) h in
    let late = and_parts (leb t s.clock) (not (is_hidden s o t)) all.1 in
    record { kept = leb-true s.floor t all.0; reached = leb-true t s.clock late.0; shown = not-true (is_hidden s o t) late.1 }

-- a number of a range passes a test
found : (p : ℕ → Bool) (a n : ℕ) → list_any p (range_with_len a n) ≡ true → (t : ℕ) × ((a ≤ t) × ((t < a + n) × (p t ≡ true)))
found p a zero h = absurd (both_ways false refl h)
found p a (suc n) h = elim (or_cases (p a) (list_any p (range_with_len (a + 1) n)) h) [
  | inl here ↦ (a, (omega arith, (omega arith, here)))
  | inr later ↦
      let there = found p (a + 1) n later in
      let low : a + 1 ≤ there.0 = there.1.0 in
      let high : there.0 < a + 1 + n = there.1.1.0 in
      (there.0, (omega (arith, low), (omega (arith, high), there.1.1.1)))
]

there : (p : ℕ → Bool) (a n t : ℕ) → a ≤ t → t < a + n → p t ≡ true → list_any p (range_with_len a n) ≡ true
there p a zero t low high h = absurd (omega (arith, low, high))
there p a (suc n) t low high h = elim (cases_lt a t) [
  | inl past ↦ or_right (p a) (list_any p (range_with_len (a + 1) n)) (there p (a + 1) n t (omega (arith, past)) (omega (arith, high)) h)
  | inr le ↦
      let same : a ≡ t = omega (arith, low, le) in
      or_left (p a) (list_any p (range_with_len (a + 1) n)) (ap p same ∙ h)
]

pub fits : (s : State) (o : ℕ) → FitsSight (is_seen_between s o) (is_visible s o)
unfolding is_seen_between
fits s o a b = (
  (λ seen.
      let is = found (is_visible s o) a (b + 1 - a) seen in
      let low : a ≤ is.0 = is.1.0 in
      let high : is.0 < a + (b + 1 - a) = is.1.1.0 in
      (is.0, (low, (omega (arith, low, high), is.1.1.1)))),
  (λ is.
      let low : a ≤ is.0 = is.1.0 in
      let high : is.0 ≤ b = is.1.1.0 in
      there (is_visible s o) a (b + 1 - a) is.0 low (omega (arith, low, high)) is.1.1.1),
)

pub seen_answer : (s : State) (o a b : ℕ) (r : Bool) → MatchBool r (IsSeenBetween s o a b) (IsSeenBetween s o a b → ⊥) → r ≡ is_seen_between s o a b
seen_answer s o a b true seen = sym ((fits s o a b).1 (seen.moment, (seen.begun, (seen.ended, visible_true s o seen.moment seen.visible))))
seen_answer s o a b false none = elim (cases_Bool (is_seen_between s o a b)) [
  | inl is ↦
      let found = (fits s o a b).0 is in
      absurd (none (record { moment = found.0; begun = found.1.0; ended = found.1.1.0; visible = true_visible s o found.0 found.1.1.1 }))
  | inr not_seen ↦ sym not_seen
]
