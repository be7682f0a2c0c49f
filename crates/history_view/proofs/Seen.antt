-- The first moment that can be read.
use Rattle.std.proofs.Common.{◌≡◌, ◌∙◌, ◌+◌, ◌-◌, ◌<◌, ◌≤◌, ℕ, zero, suc, Bool, true, false, inl, inr, ap, sym, subst, arith}
use Rattle.std.proofs.lemmas.Bool.{cond-true, cond-false, true≢false, false_from_ne_true, cases_Bool, cases_lt, cases_eq}
use Rattle.s4_model.specs.State.{State}
use Rattle.s4_model.specs.Visible.{IsVisible, IsSeenBetween}
use Rattle.s4_model.specs.Sound.{IsSound}
use Rattle.history_view.specs.Listing.{first_from, is_visible, seen_from}
use Rattle.history_view.proofs.Shown.{visible_then, then_visible, clock_is_visible}

module _ (passes : ℕ → Bool) where
  pub record IsFoundUp (t r x : ℕ) : Type 0 where
    pub from : t ≤ x
    pub up : x ≤ r
    pub is : passes x ≡ true

  -- the moment that passes first is the first one
  pub first_is : (t n r : ℕ) → t ≤ r → r ≤ t + n → passes r ≡ true → ((q : ℕ) → t ≤ q → q < r → passes q ≡ false) → r ≡ first_from passes t n
  first_is t zero r low high passed none = omega arith
  first_is t (suc n) r low high passed none =
      elim (cases_Bool (passes t)) [
        | inl is ↦ here is ∙ sym (cond-true (passes t) t (first_from passes (t + 1) n) is)
        | inr fails ↦ first_is (t + 1) n r (above fails) (omega arith) passed (λ q from to. none q (omega arith) to) ∙ sym (cond-false (passes t) t (first_from passes (t + 1) n) fails)
      ]
    where
      here : passes t ≡ true → r ≡ t
      here is = elim (cases_lt t r) [
        | inl less ↦ absurd (true≢false (sym is ∙ none t (omega arith) less))
        | inr up ↦ omega (arith, up)
      ]

      above : passes t ≡ false → t + 1 ≤ r
      above fails = elim (cases_eq r t) [
        | inl same ↦ absurd (true≢false (sym passed ∙ ap passes same ∙ fails))
        | inr apart ↦ omega (arith, apart)
      ]

  -- a moment that passes first is one that passes, and no later than another that does
  pub first_found : (t n r : ℕ) → t ≤ r → r ≤ t + n → passes r ≡ true → IsFoundUp t r (first_from passes t n)
  first_found t zero r low high passed =
      let same : r ≡ t = omega arith in
      record { from = omega arith; up = low; is = ap passes (sym same) ∙ passed }
  first_found t (suc n) r low high passed =
      elim (cases_Bool (passes t)) [
        | inl is ↦ subst (IsFoundUp t r) (sym (cond-true (passes t) t (first_from passes (t + 1) n) is)) (record { from = omega arith; up = low; is = is })
        | inr fails ↦
            let later = first_found (t + 1) n r (beyond fails) (omega arith) passed in
            subst (IsFoundUp t r) (sym (cond-false (passes t) t (first_from passes (t + 1) n) fails)) (record { from = omega (arith, later.from); up = later.up; is = later.is })
      ]
    where
      beyond : passes t ≡ false → t + 1 ≤ r
      beyond fails = elim (cases_eq r t) [
        | inl same ↦ absurd (true≢false (sym passed ∙ ap passes same ∙ fails))
        | inr apart ↦ omega (arith, apart)
      ]

-- a moment that can be read, from one on and no later than another
pub record Found (s : State) (o t r x : ℕ) : Type 0 where
  pub from : t ≤ x
  pub up : x ≤ r
  pub visible : IsVisible s o x

-- where one can be read, the first that can is no later
pub seen_found : (s : State) (o t r : ℕ) → t ≤ r → IsVisible s o r → Found s o t r (seen_from s o t)
seen_found s o t r from v =
    let found = first_found (is_visible s o) t (s.clock - t) r from (omega (arith, v.reached)) (then_visible s o r v) in
    record { from = found.from; up = found.up; visible = visible_then s o (seen_from s o t) found.is }

-- no moment from one on, below another, can be read
abbrev pub NoneBetween : State → ℕ → ℕ → ℕ → Type 0
NoneBetween s o t low = (q : ℕ) → t ≤ q → q < low → IsVisible s o q → ⊥

-- the first moment that can be read, from one on
pub first_seen_is : (s : State) (o t r : ℕ) → t ≤ r → IsVisible s o r → NoneBetween s o t r → r ≡ seen_from s o t
first_seen_is s o t r from v none =
    first_is (is_visible s o) t (s.clock - t) r from (omega (arith, v.reached)) (then_visible s o r v)
    (λ q begun before. false_from_ne_true (is_visible s o q) (λ is. none q begun before (visible_then s o q is)))

-- ---- a search for it

-- some moment up to the clock's can be read
pub clock_between : (s : State) (o t : ℕ) → IsSound s → t ≤ s.clock → IsSeenBetween s o t s.clock
clock_between s o t sound reached = record { moment = s.clock; begun = reached; ended = omega arith; visible = clock_is_visible s o sound }

-- where the two ends meet, that moment can be read
pub met : (s : State) (o low high : ℕ) → IsSeenBetween s o low high → high ≤ low → IsVisible s o low
met s o low high between over = let same : between.moment ≡ low = omega (arith, between.begun, between.ended) in subst (IsVisible s o) same between.visible
