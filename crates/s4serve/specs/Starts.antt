-- Where a service begins.
use Rattle.std.specs.Prelude.{◌≡◌, ℕ, Option, max, unwrap_or}
use Rattle.service_time.specs.Starts.{Counts, IsTooFar}
use Rattle.service_time.specs.declared.starts.TheConstants.{FIRST_START}

-- A service begins at this moment over a drive with this clock and this window, by the machine's time and the leap that was asked for: the
-- clock counts no requests, and is no further below that time than may be.
pub record IsStart (clock window : ℕ) (leap : Option ℕ) (system start : ℕ) : Type 0 where
  pub times : Counts clock → ⊥
  pub near : IsTooFar clock window system (unwrap_or leap 0) → ⊥
  pub begins : start ≡ max (max clock system) FIRST_START
