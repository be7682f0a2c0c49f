-- What a crash may leave.
use Rattle.std.specs.Prelude.{◌≡◌, ℕ, ◌⊎◌, List}

-- a crash leaves these bytes and nothing else
abbrev pub Only : List ℕ → (List ℕ → Type 0) → Type 0
Only bytes outcomes = (c : List ℕ) → outcomes c → c ≡ bytes

-- each outcome now is one of those before
abbrev pub AddsNothing : (before now : List ℕ → Type 0) → Type 0
AddsNothing before now = (c : List ℕ) → now c → before c

-- each of the others is an outcome now
abbrev pub LeavesAll : (others now : List ℕ → Type 0) → Type 0
LeavesAll others now = (c : List ℕ) → others c → now c

-- each outcome now is one of those before, or one of the others
abbrev pub Adds : (others before now : List ℕ → Type 0) → Type 0
Adds others before now = (c : List ℕ) → now c → before c ⊎ others c

-- each outcome now is one of those before, or these bytes
abbrev pub IsBeforeOrAfter : List ℕ → (before now : List ℕ → Type 0) → Type 0
IsBeforeOrAfter bytes before now = (c : List ℕ) → now c → before c ⊎ (c ≡ bytes)

-- What is kept: whatever a crash leaves, this holds of it. It is said of outcomes, by whoever says what the bytes are to be, and never
-- by a keeper.
abbrev pub IsKept : (outcomes : List ℕ → Type 0) → (Holds : List ℕ → Type 0) → Type 0
IsKept outcomes Holds = (c : List ℕ) → outcomes c → Holds c
