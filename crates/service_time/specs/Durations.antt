-- What a text says of a duration.
use Rattle.std.specs.Prelude.{ℕ, List}
use Rattle.moment_words.specs.Words.{IsAge}

-- The text is a number and the letter of a unit, which last this many microseconds, and 64 bits hold these: as the age of a moment is written.
abbrev pub IsDuration : List ℕ → ℕ → Type 0
IsDuration text micros = IsAge text micros
