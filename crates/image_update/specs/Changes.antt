-- What changed from one front to the next: steps over the bytes of the old one, and what they give.
use Rattle.std.specs.Prelude.{ℕ, nat_le, ◌&&◌, if◌then◌else◌, Bool, List, [], ◌∷◌, ◌++◌, length, take, drop, Option, Some, None}
use Rattle.std.specs.Option.{option_map}
use Rattle.image_update.specs.declared.steps.Step.{Step}

-- steps, and all bytes that they put, one after the other
pub record Changes : Type 0 where
  pub steps : List Step
  pub put : List ℕ

-- whether there are as many bytes as a step keeps and skips, and as many to be put as it puts
abbrev pub fits : Step → List ℕ → List ℕ → Bool
fits s old put = nat_le s.keep (length old) && (nat_le s.skip (length (drop s.keep old)) && nat_le s.put (length put))

-- What the steps give of a front and of the bytes to be put, none where a step doesn't fit or bytes are left: each step keeps
-- bytes, skips those after them, and puts others in their place.
abbrev pub applied : List Step → List ℕ → List ℕ → Option (List ℕ)
applied [] [] [] = Some []
applied [] [] (b ∷ put) = None
applied [] (b ∷ old) put = None
applied (s ∷ steps) old put =
    if fits s old put
    then option_map (λ (rest : List ℕ). take s.keep old ++ (take s.put put ++ rest)) (applied steps (drop s.skip (drop s.keep old)) (drop s.put put))
    else None

-- what changes make of a front
abbrev pub patched : Changes → List ℕ → Option (List ℕ)
patched changes old = applied changes.steps old changes.put
