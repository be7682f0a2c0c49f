-- What two lists of lines begin with and end with alike.
use Rattle.std.specs.Prelude.{◌≡◌, ◌≢◌, ℕ, ◌-◌, ◌<◌, ◌≤◌, List, length, take, drop}
use Rattle.line_diff.specs.Script.{line_at}

-- Two lists begin with this many same lines, and not with more.
pub record IsFront (old new : List (List ℕ)) (count : ℕ) : Type 0 where
  pub within_old : count ≤ length old
  pub within_new : count ≤ length new
  pub same : take count old ≡ take count new
  pub apart : count < length old → count < length new → line_at old count ≢ line_at new count

-- Two lists end with this many same lines, and not with more.
pub record IsBack (old new : List (List ℕ)) (count : ℕ) : Type 0 where
  pub within_old : count ≤ length old
  pub within_new : count ≤ length new
  pub same : drop (length old - count) old ≡ drop (length new - count) new
  pub apart : count < length old → count < length new → line_at old (length old - count - 1) ≢ line_at new (length new - count - 1)
