-- How far ahead of its clock a drive is kept.
use Rattle.std.specs.Prelude.{ℕ, ◌+◌, ◌-◌, ◌/◌, ◌^◌, max, min}

-- ten seconds where moments are microseconds, or a sixteenth of the window where that is less
abbrev pub ahead : (window : ℕ) → ℕ
ahead window = min (window / 16) 10000000

-- The clock of what is kept: this far ahead of the drive's clock, at most the last moment, and not below what was kept before. A window
-- that is set may be less than the one before.
abbrev pub reach_after : (last clock window : ℕ) → ℕ
reach_after last clock window = max last (min (clock + ahead window) (2 ^ 64 - 1))
