-- The file beside an image.
use Rattle.std.specs.Prelude.{ℕ, Bool, false, List, Option, None, Some, IsSomeAnd, IfSome, string_bytes}
use Rattle.host_calls.specs.Events.{Event}
use Rattle.host_calls.specs.Files.{is_locked}
use Rattle.host_calls.specs.Replay.{Leaves, World}
use Rattle.kept_files.specs.Places.{IsWritten}
use Rattle.kept_files.specs.declared.making.Beside.{Beside}

module _ {F D : Type 0} where
  -- whether it is there, and locked
  abbrev pub is_beside_locked : (number : F → ℕ) → List Event → Option (Beside F D) → Bool
  is_beside_locked number history None = false
  is_beside_locked number history (Some beside) = is_locked (number beside.file) history

  -- it is there, and has these bytes
  abbrev pub IsBesideWritten : (number : F → ℕ) → World → Option (Beside F D) → List ℕ → Type 0
  IsBesideWritten number w beside bytes = IsSomeAnd beside (λ b. IsWritten w (number b.file) (string_bytes b.path) bytes)

  -- what a crash leaves of it, where it is there
  abbrev pub BesideLeaves : (was : List ℕ → List ℕ → Type 0) → World → Option (Beside F D) → List ℕ → Type 0
  BesideLeaves was w beside c = IfSome beside (λ b. Leaves was (w.named (string_bytes b.path)) c)
