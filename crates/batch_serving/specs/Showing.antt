-- What a receipt shows of a session's last step.
use Rattle.std.specs.Prelude.{ℕ, Option, Some, None}
use Rattle.group_commit.specs.Commit.{Covers}

-- The session's last step was this: a number of changes was accepted then, and the clock was there. The receipt covers that.
pub record IsShown {A T : Type 0} (is_at : A → ℕ → ℕ → Type 0) (number_of reach_of : T → ℕ) (asked : A) (receipt : T) : Type 0 where
  pub number : ℕ
  pub clock : ℕ
  pub step : is_at asked number clock
  pub covered : Covers number_of reach_of receipt number clock

-- there is one, and it covers that
abbrev pub Shows : {A T : Type 0} → (is_at : A → ℕ → ℕ → Type 0) → (number_of reach_of : T → ℕ) → A → Option T → Type 0
Shows is_at number_of reach_of asked None = ⊥
Shows is_at number_of reach_of asked (Some receipt) = IsShown is_at number_of reach_of asked receipt
