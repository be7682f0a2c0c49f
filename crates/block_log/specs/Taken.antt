-- How many places a change of a log takes, and where it puts what is held newly.
use Rattle.std.specs.Prelude.{◌≡◌, ℕ, ◌+◌, take, drop, None, IsSome}
use Rattle.std.specs.List.{Contains}
use Rattle.s4_types.specs.Pointer.{Place}
use Rattle.block_log.specs.Log.{Log}

-- The first n places ahead were taken, and each counts as spent; what wasn't held before and is held now is at one of them.
pub record TakesPlaces (n : ℕ) (before after : Log) : Type 0 where
  pub ahead : after.ahead ≡ drop n before.ahead
  pub spent : after.spent ≡ n + before.spent
  pub among : (p : Place) → before.held p ≡ None → IsSome (after.held p) → Contains (take n before.ahead) p
