-- Moments that several sessions draw from one clock.
use Rattle.std.specs.Prelude.{◌≡◌, ◌<◌, ◌+◌, ◌++◌, ℕ, List, length, slice_index}
use Rattle.serving.specs.Drawing.{Drawn, moment_of_tick}

-- Whatever else is drawn from a clock after these moments: a run may draw all of them, in this order.
abbrev pub MayGoOn : {C : Type 0} → (draws : C → ℕ → C → Type 0) → (moments : List ℕ → Type 0) → C → List ℕ → Type 0
MayGoOn {C} draws moments clock drawn = (more : List ℕ) (later : C) → Drawn draws clock more later → moments (drawn ++ more)

-- a clock that ticks: where it was at first, and how far each request moves it
pub record ClockFields : Type 0 where
  pub start : ℕ
  pub tick : ℕ

-- the moment of the k-th request that is answered, counted from 1: it stops at the last moment, 2^64 - 1
abbrev pub moment_at : ClockFields → ℕ → ℕ
moment_at clock k = moment_of_tick clock.start clock.tick k

-- these moments are those of such a clock, from the first on
abbrev pub AreTicks : ClockFields → List ℕ → Type 0
AreTicks clock moments = (k : ℕ) → k < length moments → slice_index moments k ≡ moment_at clock (k + 1)

-- A clock that gives no moment of its own: what it is asked for says nothing.
abbrev pub DrawsNothing : {C : Type 0} → C → ℕ → C → Type 0
DrawsNothing old now new = new ≡ old
