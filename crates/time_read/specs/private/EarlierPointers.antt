-- Pointers before entries, in two lists, and which of them is the first of an index.
use Rattle.std.specs.Prelude.{ℕ, ◌==◌, if◌then◌else◌, List, [], ◌∷◌, Option}
use Rattle.s4_types.specs.Pointer.{Place}
use Rattle.time_read.specs.Earlier.{Earlier}

-- the pointers of these indices, each with what was there before
abbrev pub joined : List ℕ → List (Option Place) → List Earlier
joined [] befores = []
joined (n ∷ indices) [] = []
joined (n ∷ indices) (b ∷ befores) = record { index = n; before = b } ∷ joined indices befores

-- what was at an index before the first change of it, or what is there where nothing changed it
abbrev pub first_before : List Earlier → ℕ → Option Place → Option Place
first_before [] index present = present
first_before (p ∷ ps) index present = if p.index == index then p.before else first_before ps index present
