-- Moments that are drawn from the clock of a service.
use Rattle.std.specs.Prelude.{◌≡◌, ℕ, ◌+◌, ◌-◌, ◌^◌, ◌≤◌, min, max, ⊤, List, [], ◌∷◌, Option, Some, None}
use Rattle.service_time.specs.declared.clock.ServiceClock.{ServiceClock}

-- the moment after the last one, where the clock began at a moment and a first reading, and is read so: it never goes back, and stops at
-- the last moment, 2^64 - 1
abbrev pub moment_after : (began first last : ℕ) → Option ℕ → ℕ
moment_after began first last None = last
moment_after began first last (Some reading) = max last (min (began + (reading - first)) (2 ^ 64 - 1))

-- A draw reads the monotonic clock once, and gives the moment after the last one.
pub record Draws {R : Type 0} (reads : R → Option ℕ → R → Type 0) (old : ServiceClock R) (now : ℕ) (new : ServiceClock R) : Type 0 where
  pub reading : Option ℕ
  pub read : reads old.readings reading new.readings
  pub drawn : now ≡ moment_after old.began old.first old.last reading
  pub last : new.last ≡ now
  pub began : new.began ≡ old.began
  pub first : new.first ≡ old.first

-- the moments are no lower than this one, and none is lower than the one before
abbrev pub Ascends : ℕ → List ℕ → Type 0
Ascends low [] = ⊤
Ascends low (now ∷ moments) = (low ≤ now) × Ascends now moments
