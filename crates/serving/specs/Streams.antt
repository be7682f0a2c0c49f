-- What a failed write leaves, and how failures are counted.
use Rattle.std.specs.Prelude.{◌≡◌, ℕ, List, ◌++◌, Option, Result, Ok, Err, ◌+◌}
use Rattle.std.specs.Io.KnownBytes.{Appends}

-- known bytes grow by a beginning of bs
abbrev pub AppendsPart : Option (List ℕ) → Option (List ℕ) → List ℕ → Type 0
AppendsPart old new bs = (part : List ℕ) × (rest : List ℕ) × (bs ≡ part ++ rest) × Appends old new part

-- the count of failures after a call: one more where it failed
abbrev pub failures_after : {T E : Type 0} → ℕ → Result T E → ℕ
failures_after count (Ok x) = count
failures_after count (Err e) = count + 1
