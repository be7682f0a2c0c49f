-- Moments that are drawn from a clock.
use Rattle.std.specs.Prelude.{◌≡◌, ℕ, ◌+◌, ◌-◌, ◌*◌, ◌^◌, min, List, [], ◌∷◌}
use Rattle.serving.specs.declared.clock.Ticking.{Ticking}

-- the moments come from the clock, one draw after another
abbrev pub Drawn : {C : Type 0} → (C → ℕ → C → Type 0) → C → List ℕ → C → Type 0
Drawn draws old [] new = new ≡ old
Drawn {C} draws old (now ∷ moments) new = (mid : C) × draws old now mid × Drawn draws mid moments new

-- the k-th moment of a clock, counted from 1: this many ticks after the start, stopping at the last moment
abbrev pub moment_of_tick : ℕ → ℕ → ℕ → ℕ
moment_of_tick start tick k = min (start + k * tick) (2 ^ 64 - 1)

-- a draw moves the clock by one tick, or to the last moment, and tells the moment that it has come to
pub record Ticks (old : Ticking) (now : ℕ) (new : Ticking) : Type 0 where
  pub moved : now ≡ moment_of_tick old.present old.tick 1
  pub present : new.present ≡ now
  pub tick : new.tick ≡ old.tick
