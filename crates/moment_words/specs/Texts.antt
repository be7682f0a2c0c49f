-- The text of a moment.
use Rattle.std.specs.Prelude.{ℕ, zero, suc, ◌+◌, ◌-◌, ◌*◌, ◌/◌, ◌%◌, ◌||◌, Bool, nat_le, nat_lt, if◌then◌else◌, List, [], ◌∷◌, ◌++◌, Some, pos}
use Rattle.std.specs.Fmt.{decimal}
use Rattle.jiff_core.specs.Calendar.{days_in_month, days_in_year}
use Rattle.jiff_fmt.specs.Text.{fraction_part, pad2, pad4}
use Rattle.moment_words.specs.declared.printing.MomentStyle.{MomentStyle}
use Rattle.moment_words.specs.declared.printing.MomentStyle.TheVariants.{Number, Date}
use Rattle.moment_words.specs.declared.printing.TheConstants.{FIRST_DATED}

-- the last moment that is printed as a date: jiff's last instant
abbrev pub last_dated : ℕ
last_dated = 253_402_207_200_999_999

-- dates where the clock counts microseconds of Unix time, unless numbers are asked for
abbrev pub style_of : ℕ → Bool → MomentStyle
style_of clock as_numbers = if as_numbers || nat_lt clock FIRST_DATED then Number else Date

-- the year of a day, and the day in it from 0; the day is counted from 1 January of the year y, and lies in one of the years y to y + k
unfoldable pub year_from : (k y day : ℕ) → ℕ × ℕ
year_from zero y day = (y, day)
year_from (suc k) y day = if nat_lt day (days_in_year (pos y)) then (y, day) else year_from k (y + 1) (day - days_in_year (pos y))

-- the month of a day of the year y, and the day in it from 1; the day is counted from the first of the month m, and lies in one of the months m to m + k
unfoldable pub month_from : (k y m day : ℕ) → ℕ × ℕ
month_from zero y m day = (m, day + 1)
month_from (suc k) y m day = if nat_lt day (days_in_month (pos y) m) then (m, day + 1) else month_from k y (m + 1) (day - days_in_month (pos y) m)

-- the year of a day that is counted from 1 January 1970, and the day in it from 0
abbrev pub year_of : ℕ → ℕ × ℕ
year_of day = year_from 8_029 1970 day

-- the month of such a day, and the day in it from 1
abbrev pub month_of : ℕ → ℕ × ℕ
month_of day = month_from 11 (year_of day).0 1 (year_of day).1

-- `2026-11-27`, of a day that is counted from 1 January 1970
abbrev pub day_text : ℕ → List ℕ
day_text day = pad4 (year_of day).0 ++ 45 ∷ pad2 (month_of day).0 ++ 45 ∷ pad2 (month_of day).1

-- `13:18:02.000123`, of the microseconds since midnight
abbrev pub clock_text : ℕ → List ℕ
clock_text micros =
    pad2 (micros / 3_600_000_000) ++ 58 ∷ pad2 (micros / 60_000_000 % 60) ++ 58 ∷ pad2 (micros / 1_000_000 % 60)
    ++ fraction_part (Some 6) (micros % 1_000_000 * 1_000)

-- `2026-11-27T13:18:02.000123Z`, of the microseconds since 1970-01-01T00:00:00Z
abbrev pub date_text : ℕ → List ℕ
date_text moment = (day_text (moment / 86_400_000_000) ++ 84 ∷ clock_text (moment % 86_400_000_000)) ++ 90 ∷ []

-- the date of a moment, and its number where it is past the last that is a date
abbrev pub dated_text : ℕ → List ℕ
dated_text moment = if nat_le moment last_dated then date_text moment else decimal moment

-- the text of a moment in a style
abbrev pub moment_text : ℕ → MomentStyle → List ℕ
moment_text moment Number = decimal moment
moment_text moment Date = dated_text moment
