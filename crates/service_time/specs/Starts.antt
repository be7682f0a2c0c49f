-- Where a service may begin over an image.
use Rattle.std.specs.Prelude.{ℕ, ◌+◌, ◌*◌, ◌/◌, ◌≤◌, ◌<◌, max, min}
use Rattle.service_time.specs.declared.starts.TheConstants.{DAY, FIRST_START, MINUTE, WEEK}

-- an image's clock counts its requests
abbrev pub Counts : ℕ → Type 0
Counts image = (0 < image) × (image < FIRST_START)

-- how much of the past may age at once, by the window: half of it, a minute at least and a week at most
abbrev pub most_aged : (window : ℕ) → ℕ
most_aged window = min WEEK (max (window / 2) MINUTE)

-- the system's time is further above an image's clock than that and the leap
abbrev pub IsTooFar : (image window system leap : ℕ) → Type 0
IsTooFar image window system leap = (FIRST_START ≤ image) × (image + max leap (most_aged window) < system)

-- As many days are enough of a leap for a day after this one, and two days more than passed at most.
pub record Suffices (image system days : ℕ) : Type 0 where
  pub enough : system + DAY ≤ image + days * DAY
  pub tight : image + days * DAY ≤ system + 2 * DAY
