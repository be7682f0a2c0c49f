-- Counting the numbers below a bound that pass a test, by a list of them.
use Rattle.std.proofs.Common.{◌≡◌, ◌⊎◌, inl, inr, ℕ, zero, suc, Bool, true, false, not, ◌==◌, ◌+◌, ◌<◌, ◌&&◌, cond, List, [], ◌∷◌, length, refl, sym, ap, ◌∙◌, arith}
use Rattle.std.specs.List.{AllByRecursion}
use Rattle.s4_model.specs.RunCounting.{has}
use Rattle.std.proofs.lemmas.Bool.{false≢true, and_parts, or_cases, or_parts, eqb-true, eq-eqb, ne_eqb}
use Rattle.lemmas.proofs.Bool.{and_false}
use Rattle.lemmas.proofs.Range.{below}

below-none : (p : ℕ → Bool) (n : ℕ) → ((t : ℕ) → t < n → p t ≡ false) → below p n ≡ 0
below-none p zero none = refl
below-none p (suc n) none =
    let here : p n ≡ false = none n (omega arith) in
    let before : below p n ≡ 0 = below-none p n (λ t lt. none t (omega arith)) in
    ap (λ b. below p n + cond b 1 0) here ∙ omega arith

-- the test without one number
abbrev without : ℕ → (ℕ → Bool) → ℕ → Bool
without x p t = p t && not (t == x)

and_true : (b : Bool) → (b && true) ≡ b
and_true true = refl
and_true false = refl

without-other : (x : ℕ) (p : ℕ → Bool) (t : ℕ) → (t ≡ x → ⊥) → without x p t ≡ p t
without-other x p t ne = ap (λ b. p t && not b) (ne_eqb t x ne) ∙ and_true (p t)

without-same : (x : ℕ) (p : ℕ → Bool) → without x p x ≡ false
without-same x p = ap (λ b. p x && not b) (eq-eqb x x refl) ∙ and_false (p x)

below-agree : (p q : ℕ → Bool) (n : ℕ) → ((t : ℕ) → t < n → p t ≡ q t) → below p n ≡ below q n
below-agree p q zero same = refl
below-agree p q (suc n) same = ap (λ b. below p n + cond b 1 0) (same n (omega arith)) ∙ ap (λ k. k + cond (q n) 1 0) (below-agree p q n (λ t lt. same t (omega arith)))

lt_or_last : (x n : ℕ) → x < suc n → (x < n) ⊎ (n ≡ x)
lt_or_last x n lt = grind arith

not_last : (x n t : ℕ) → n ≡ x → t < n → t ≡ x → ⊥
not_last x n t last lt e = omega arith

below-step : (x : ℕ) (p : ℕ → Bool) (n : ℕ) → p x ≡ true → (x < n → below p n ≡ below (without x p) n + 1) → (x < n) ⊎ (n ≡ x) → below p n + cond (p n) 1 0 ≡ below (without x p) n + cond (without x p n) 1 0 + 1
below-step x p n here ahead (inl lt) =
    let same : without x p n ≡ p n = without-other x p n (λ (e : n ≡ x). absurd (omega arith)) in
    let before : below p n ≡ below (without x p) n + 1 = ahead lt in
    let e : cond {A = ℕ} (without x p n) 1 0 ≡ cond {A = ℕ} (p n) 1 0 = ap (λ b. cond b 1 0) same in
    omega arith
below-step x p n here ahead (inr last) =
    let passes : cond {A = ℕ} (p n) 1 0 ≡ 1 = ap (λ t. cond (p t) 1 0) last ∙ ap (λ b. cond b 1 0) here in
    let gone : cond {A = ℕ} (without x p n) 1 0 ≡ 0 = ap (λ t. cond (without x p t) 1 0) last ∙ ap (λ b. cond b 1 0) (without-same x p) in
    let before : below p n ≡ below (without x p) n = below-agree p (without x p) n (λ t lt. sym (without-other x p t (not_last x n t last lt))) in
    omega arith

-- a number that passes is one of the count
below-one : (x : ℕ) (p : ℕ → Bool) (n : ℕ) → x < n → p x ≡ true → below p n ≡ below (without x p) n + 1
below-one x p zero lt here = absurd (omega arith)
below-one x p (suc n) lt here = below-step x p n here (λ lt. below-one x p n lt here) (lt_or_last x n lt)

-- no number is twice
abbrev pub IsWithoutRepeats : List ℕ → Type 0
IsWithoutRepeats [] = Unit {0}
IsWithoutRepeats (x ∷ xs) = (has xs x ≡ false) × IsWithoutRepeats xs

-- the list has numbers below the bound that pass
abbrev pub Passes : (ℕ → Bool) → ℕ → List ℕ → Type 0
Passes p n xs = AllByRecursion (λ t. (p t ≡ true) × (t < n)) xs

passes_without : (p : ℕ → Bool) (n x : ℕ) (xs : List ℕ) → has xs x ≡ false → Passes p n xs → Passes (without x p) n xs
passes_without p n x [] out h = tt
passes_without p n x (y ∷ ys) out h =
    let parts : ((y == x) ≡ false) × (has ys x ≡ false) = or_parts (y == x) (has ys x) out in
    ((ap (λ b. p y && not b) parts.0 ∙ and_true (p y) ∙ h.0.0, h.0.1), passes_without p n x ys parts.1 h.1)

none_passes : (b : Bool) → (b ≡ true → false ≡ true) → b ≡ false
none_passes true h = absurd (false≢true (h refl))
none_passes false h = refl

in_rest : (a b : Bool) → (a ≡ true → ⊥) → (a ≡ true) ⊎ (b ≡ true) → b ≡ true
in_rest a b never (inl e) = absurd (never e)
in_rest a b never (inr e) = e

pub not_both_ways : (b : Bool) → b ≡ true → not b ≡ true → ⊥
not_both_ways true e f = false≢true f
not_both_ways false e f = false≢true e

still_has : (xs : List ℕ) (x t : ℕ) {P : Type 0} → P × (not (t == x) ≡ true) → has (x ∷ xs) t ≡ true → has xs t ≡ true
still_has xs x t other here = in_rest (x == t) (has xs t) (λ e. not_both_ways (t == x) (eq-eqb t x (sym (eqb-true x t e))) other.1) (or_cases (x == t) (has xs t) here)

-- a list of all that pass, none twice, counts them
pub below-length : (xs : List ℕ) (p : ℕ → Bool) (n : ℕ) → IsWithoutRepeats xs → Passes p n xs → ((t : ℕ) → t < n → p t ≡ true → has xs t ≡ true) → below p n ≡ length xs
below-length [] p n once h all = below-none p n (λ t lt. none_passes (p t) (all t lt))
below-length (x ∷ xs) p n once h all =
    let rest : below (without x p) n ≡ length xs = below-length xs (without x p) n once.1 (passes_without p n x xs once.0 h.1) (λ t lt passes. still_has xs x t (and_parts (p t) (not (t == x)) passes) (all t lt (and_parts (p t) (not (t == x)) passes).0)) in
    let one : below p n ≡ below (without x p) n + 1 = below-one x p n h.0.1 h.0.0 in
    omega arith
