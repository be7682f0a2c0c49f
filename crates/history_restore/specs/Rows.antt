-- Numbers of objects.
use Rattle.std.specs.Prelude.{ℕ, ◌<◌, ◌==◌, Bool, List, [], ◌∷◌}
use Rattle.std.specs.List.{list_any}

-- numbers that ascend strictly, from above one, and are below another
abbrev pub AscendBelow : ℕ → ℕ → List ℕ → Type 0
AscendBelow low high [] = Unit {0}
AscendBelow low high (o ∷ objects) = (low < o) × (o < high) × AscendBelow o high objects

-- whether an object is among those that are asked for
abbrev pub is_among : List ℕ → ℕ → Bool
is_among asked o = list_any (λ (x : ℕ). x == o) asked
