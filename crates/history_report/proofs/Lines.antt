-- Where the first lines of some bytes end.
use Rattle.std.proofs.Common.{◌≡◌, ◌∙◌, ◌⊎◌, ◌+◌, ◌-◌, ◌<◌, ◌≤◌, ◌==◌, ℕ, zero, suc, true, cond, List, [], ◌∷◌, length, drop, get_or, inl, inr, refl, sym, ap, arith}
use Rattle.std.proofs.lemmas.Bool.{cond-true, cond-false, cases_Bool, eqb-true}
use Rattle.std.proofs.lemmas.List.{drop_more, drop_all}
use Rattle.history_report.specs.Differences.{lines_end}

-- no byte has no line
end_nil : (left : ℕ) → lines_end left [] ≡ 0
end_nil zero = refl
end_nil (suc n) = refl

-- a byte more, where lines are left
end_step : (left b : ℕ) (bytes : List ℕ) → (left ≡ 0 → ⊥) → lines_end left (b ∷ bytes) ≡ cond (b == 10) (lines_end (left - 1) bytes) (lines_end left bytes) + 1
end_step zero b bytes some = absurd (some refl)
end_step (suc n) b bytes some = let is : suc n - 1 ≡ n = omega arith in ap (λ (m : ℕ). cond (b == 10) (lines_end m bytes) (lines_end (suc n) bytes) + 1) (sym is)

-- what is left of the lines after a byte: one less where it ends one
abbrev pub Moved : (b left next : ℕ) → Type 0
Moved b left next = ((b ≡ 10) × (next ≡ left - 1)) ⊎ ((b ≡ 10 → ⊥) × (next ≡ left))

moved_is : (b left next : ℕ) (bytes : List ℕ) → Moved b left next → cond (b == 10) (lines_end (left - 1) bytes) (lines_end left bytes) ≡ lines_end next bytes
moved_is b left next bytes (inl ends) =
    let is : (b == 10) ≡ true = ap (λ (x : ℕ). x == 10) ends.0 in
    cond-true (b == 10) (lines_end (left - 1) bytes) (lines_end left bytes) is ∙ ap (λ (n : ℕ). lines_end n bytes) (sym ends.1)
moved_is b left next bytes (inr goes) = elim (cases_Bool (b == 10)) [
  | inl is ↦ absurd (goes.0 (eqb-true b 10 is))
  | inr fails ↦ cond-false (b == 10) (lines_end (left - 1) bytes) (lines_end left bytes) fails ∙ ap (λ (n : ℕ). lines_end n bytes) (sym goes.1)
]

pub line_on : (lines left next i : ℕ) (bytes : List ℕ) → i < length bytes → (left ≡ 0 → ⊥) → lines_end lines bytes ≡ i + lines_end left (drop i bytes) → Moved (get_or bytes i 0) left next
    → lines_end lines bytes ≡ i + 1 + lines_end next (drop (i + 1) bytes)
line_on lines left next i bytes lt some before moved =
    let rest = drop (i + 1) bytes in
    let b = get_or bytes i 0 in
    let step : lines_end left (drop i bytes) ≡ lines_end next rest + 1 =
    ap (lines_end left) (drop_more bytes i 0 lt) ∙ end_step left b rest some ∙ ap (λ (n : ℕ). n + 1) (moved_is b left next rest moved) in
    omega (arith, before, step)

pub line_over : (lines left i : ℕ) (bytes : List ℕ) → length bytes ≤ i → i ≤ length bytes → lines_end lines bytes ≡ i + lines_end left (drop i bytes) → length bytes ≡ lines_end lines bytes
line_over lines left i bytes over within before =
    let none : lines_end left (drop i bytes) ≡ 0 = ap (lines_end left) (drop_all i bytes over) ∙ end_nil left in
    omega (arith, over, within, before, none)
