-- How the plain drive counts runs: by the first moments that it has come upon.
use Rattle.std.specs.Prelude.{ℕ, Bool, not, ◌==◌, ◌&&◌, ◌≤◌, if◌then◌else◌, List, [], ◌∷◌, ◌++◌}
use Rattle.std.specs.List.{list_any, AllByRecursion}
use Rattle.s4_types.specs.declared.spans.Span.{Span}

-- all spans end by the clock
abbrev pub AllEndBy : ℕ → List Span → Type 0
AllEndBy clock spans = AllByRecursion (λ span. span.last ≤ clock) spans

-- whether a list has a number
abbrev pub has : List ℕ → ℕ → Bool
has xs t = list_any (λ y. y == t) xs

-- a first moment noted, if a run begins there and it isn't noted yet
abbrev pub noted : List ℕ → ℕ → Bool → List ℕ
noted firsts t begins = if begins && not (has firsts t) then firsts ++ t ∷ [] else firsts
