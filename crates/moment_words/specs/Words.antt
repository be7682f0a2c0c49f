-- What a text says of a moment.
use Rattle.std.specs.Prelude.{◌≡◌, ◌<◌, ◌+◌, ◌*◌, ◌/◌, ◌^◌, ◌⊎◌, ℕ, ℤ, min, nat_lt, if◌then◌else◌, pos, negsuc, List, [], ◌∷◌, ◌++◌, Option, Some, None, Result, Ok, Err}
use Rattle.std.specs.Str.Parse.{IsNumeral, digits_value, without_leading_plus}
use Rattle.jiff_core.specs.declared.error.Error.{Error}
use Rattle.jiff_fmt.specs.Temporal.{parse_timestamp}
use Rattle.moment_words.specs.declared.words.AgeUnit.{AgeUnit}
use Rattle.moment_words.specs.declared.words.AgeUnit.TheVariants.{Second, Minute, Hour, Day, Week}
use Rattle.moment_words.specs.declared.words.MomentWord.{MomentWord}
use Rattle.moment_words.specs.declared.printing.TheConstants.{FIRST_DATED}
use Rattle.moment_words.specs.declared.words.MomentWord.TheVariants.{Moment, Time}

-- the text is a decimal number of 64 bits
abbrev pub IsNumber : List ℕ → ℕ → Type 0
IsNumber text n =
    (IsNumeral 10 (without_leading_plus text) × (digits_value 10 (without_leading_plus text) < 2 ^ 64))
    × (n ≡ digits_value 10 (without_leading_plus text))

-- the microsecond of an instant that is given in nanoseconds; none before 1970
abbrev pub microsecond_of : ℤ → Option ℕ
microsecond_of (pos nanos) = Some (nanos / 1_000)
microsecond_of (negsuc nanos) = None

-- the same of what may be an instant
abbrev pub microsecond_in : Result ℤ Error → Option ℕ
microsecond_in (Ok nanos) = microsecond_of nanos
microsecond_in (Err error) = None

-- the microsecond of a time in RFC 3339, as jiff reads it; none where the text is no time, or one before 1970
abbrev pub time_of : List ℕ → Option ℕ
time_of text = microsecond_in (parse_timestamp text)

-- the letter of a unit: s, m, h, d or w
abbrev pub letter_of : AgeUnit → ℕ
letter_of Second = 115
letter_of Minute = 109
letter_of Hour = 104
letter_of Day = 100
letter_of Week = 119

-- the microseconds of a unit
abbrev pub micros_of : AgeUnit → ℕ
micros_of Second = 1_000_000
micros_of Minute = 60_000_000
micros_of Hour = 3_600_000_000
micros_of Day = 86_400_000_000
micros_of Week = 604_800_000_000

-- the text is a number and the letter of the unit, and together they last this many microseconds, which 64 bits hold
abbrev pub IsAgeIn : AgeUnit → List ℕ → ℕ → Type 0
IsAgeIn unit text age =
    (digits : List ℕ) × (count : ℕ) × (text ≡ digits ++ letter_of unit ∷ []) × IsNumber digits count × (age ≡ count * micros_of unit) × (age < 2 ^ 64)

-- the same in some unit
abbrev pub IsAge : List ℕ → ℕ → Type 0
IsAge text age = (unit : AgeUnit) × IsAgeIn unit text age

-- no number fits
abbrev pub IsNo : (ℕ → Type 0) → Type 0
IsNo Is = (n : ℕ) → Is n → ⊥

-- the text is an age, and this is the time so long ago; no time is where the age is larger than what it is now
abbrev pub IsTimeAgo : ℕ → List ℕ → ℕ → Type 0
IsTimeAgo now text time = (age : ℕ) × IsAge text age × (time + age ≡ now)

-- The text says this, at this time: a number before a time, and a time before an age, so that it says one thing alone.
abbrev pub IsMomentWord : ℕ → List ℕ → MomentWord → Type 0
IsMomentWord now text (Moment moment) = IsNumber text moment
IsMomentWord now text (Time time) =
    IsNo (IsNumber text) × ((time_of text ≡ Some time) ⊎ ((time_of text ≡ None) × IsTimeAgo now text time))

-- the text says this moment, as a number or as a time, whatever the time is now
abbrev pub SaysMoment : List ℕ → ℕ → Type 0
SaysMoment text moment = (now : ℕ) → IsMomentWord now text (Moment moment) ⊎ IsMomentWord now text (Time moment)

-- The moment that a word says where the clock is there: a number is itself. A time says none where the moments are numbers, and the clock where
-- it is above that.
abbrev pub moment_of : MomentWord → ℕ → Option ℕ
moment_of (Moment moment) clock = Some moment
moment_of (Time time) clock = if nat_lt clock FIRST_DATED then None else Some (min time clock)
