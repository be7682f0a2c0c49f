-- Audit rows read one by one. No public clause cites this file.
use Rattle.std.specs.Prelude.{ℕ, ◌<◌, Option, Some, None}

-- a moment is later than the last one, if there is one
abbrev pub IsLater : Option ℕ → ℕ → Type 0
IsLater None moment = Unit {0}
IsLater (Some last) moment = last < moment
