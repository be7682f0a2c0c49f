-- What putting a number into a list that descends leaves. No public clause cites this file.
use Rattle.std.specs.Prelude.{◌≡◌, ℕ, ◌<◌, List, ◌∷◌, ◌++◌}
use Rattle.std.specs.List.{AllByRecursion}

-- a number was put into a list between those that are greater and those that are less
abbrev pub IsPutBetween : ℕ → List ℕ → List ℕ → Type 0
IsPutBetween x old new = (higher lower : List ℕ) → old ≡ higher ++ lower → AllByRecursion (λ n. x < n) higher → AllByRecursion (λ n. n < x) lower
    → new ≡ higher ++ x ∷ lower
