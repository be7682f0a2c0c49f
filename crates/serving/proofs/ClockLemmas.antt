-- The moments of a clock that ticks.
use Rattle.std.proofs.Common.{◌≡◌, ℕ, ◌+◌, ◌^◌, ◌<◌, List, [], ◌∷◌, length, get_or, zero, suc, arith, ap, ◌∙◌}
use Rattle.serving.specs.Drawing.{Drawn, Ticks, moment_of_tick}
use Rattle.serving.specs.declared.clock.Ticking.{Ticking}

-- one tick after the j-th moment is the next
next_moment : (start tick j m : ℕ) → m ≡ moment_of_tick start tick j → moment_of_tick m tick 1 ≡ moment_of_tick start tick (j + 1)
next_moment start tick j m at = grind arith

-- the moments drawn from a clock that is at the j-th moment
moments_behind : (start tick : ℕ) (moments : List ℕ) (old new : Ticking) (j : ℕ) → old.present ≡ moment_of_tick start tick j → old.tick ≡ tick → Drawn Ticks old moments new
    → (k : ℕ) → k < length moments → get_or moments k 0 ≡ moment_of_tick start tick (j + (k + 1))
moments_behind start tick [] old new j at same drawn k lt = absurd (omega arith)
moments_behind start tick (now ∷ moments) old new j at same drawn zero lt =
    drawn.1.moved ∙ ap (λ t. moment_of_tick old.present t 1) same ∙ next_moment start tick j old.present at
moments_behind start tick (now ∷ moments) old new j at same drawn (suc k) lt =
    let here : now ≡ moment_of_tick start tick (j + 1) = drawn.1.moved ∙ ap (λ t. moment_of_tick old.present t 1) same ∙ next_moment start tick j old.present at in
    let rest = moments_behind start tick moments drawn.0 new (j + 1) (drawn.1.present ∙ here) (drawn.1.tick ∙ same) drawn.2 k (omega arith) in
    let count : j + 1 + (k + 1) ≡ j + (suc k + 1) = omega arith in
    rest ∙ ap (moment_of_tick start tick) count

-- the moments drawn from a clock that is at the start
pub moments_from : (start tick : ℕ) (moments : List ℕ) (old new : Ticking) → old.present ≡ start → start < 2 ^ 64 → old.tick ≡ tick → Drawn Ticks old moments new
    → (k : ℕ) → k < length moments → get_or moments k 0 ≡ moment_of_tick start tick (k + 1)
moments_from start tick moments old new at fits same drawn k lt =
    moments_behind start tick moments old new 0 (at ∙ grind arith) same drawn k lt ∙ ap (moment_of_tick start tick) (omega arith)
