-- Two fronts cut into pairs of parts that face each other, and the steps that this gives.
use Rattle.std.specs.Prelude.{ℕ, ◌+◌, ◌^◌, ◌<◌, ◌≤◌, ◌==◌, ◌&&◌, if◌then◌else◌, List, [], ◌∷◌, ◌++◌, length}
use Rattle.std.specs.List.{flat_map}
use Rattle.std.specs.Str.{bytes_eq}
use Rattle.image_update.specs.declared.building.Builder.{Builder}
use Rattle.image_update.specs.declared.steps.Step.{Step}
use Rattle.image_update.specs.Changes.{Changes}

-- a part of the old front, and what is in its place in the new one: either may be empty
pub record Pair : Type 0 where
  pub old : List ℕ
  pub new : List ℕ

-- the parts of the old front, joined
abbrev pub olds : List Pair → List ℕ
olds pairs = flat_map (λ p. p.old) pairs

-- the parts of the new front, joined
abbrev pub news : List Pair → List ℕ
news pairs = flat_map (λ p. p.new) pairs

-- steps that are being made: those that are done, the last one, and all bytes that are put
pub record Built : Type 0 where
  pub done : List Step
  pub last : Step
  pub put : List ℕ

-- a step that does nothing yet
abbrev pub no_step : Step
no_step = record { keep = 0; skip = 0; put = 0 }

abbrev pub nothing_built : Built
nothing_built = record { done = []; last = no_step; put = [] }

-- Bytes are kept: by the last step, where it skips and puts none, and else by a new one.
abbrev pub keeping : ℕ → Built → Built
keeping n b =
    if n == 0 then b
    else (if b.last.skip == 0 && b.last.put == 0
    then record { done = b.done; last = record { keep = b.last.keep + n; skip = 0; put = 0 }; put = b.put }
    else record { done = b.done ++ b.last ∷ []; last = record { keep = n; skip = 0; put = 0 }; put = b.put })

-- Bytes are put in the place of others, by the last step.
abbrev pub replacing : List ℕ → List ℕ → Built → Built
replacing old new b = record {
  done = b.done;
  last = record { keep = b.last.keep; skip = b.last.skip + length old; put = b.last.put + length new };
  put = b.put ++ new;
}

-- A pair whose parts are equal is kept, and each other one replaced.
abbrev pub after : Pair → Built → Built
after p b = if bytes_eq p.old p.new then keeping (length p.old) b else replacing p.old p.new b

-- after all pairs, from the front
abbrev pub built : List Pair → Built → Built
built [] b = b
built (p ∷ pairs) b = built pairs (after p b)

-- what was built, as changes
abbrev pub changes_of : Built → Changes
changes_of b = record { steps = b.done ++ b.last ∷ []; put = b.put }

-- the changes that pairs give
abbrev pub changes_by : List Pair → Changes
changes_by pairs = changes_of (built pairs nothing_built)

-- what a builder has built
abbrev pub built_in : Builder → Built
built_in b = record { done = b.done.items; last = b.last; put = b.put.items }

-- the steps that are being made have room for this many bytes more of both fronts
pub record HasRoom (b : Built) (before now : ℕ) : Type 0 where
  pub old : b.last.keep + b.last.skip + before < 2 ^ 64
  pub new : b.last.put + now < 2 ^ 64

-- their last step is longer by at most this many bytes of both fronts
pub record Grows (b c : Built) (before now : ℕ) : Type 0 where
  pub old : c.last.keep + c.last.skip ≤ b.last.keep + b.last.skip + before
  pub new : c.last.put ≤ b.last.put + now
