-- How changes are encoded: how many steps they have, the steps, and the bytes that these put. Numbers have their lowest byte first.
use Rattle.std.specs.Prelude.{◌≡◌, ℕ, zero, suc, ◌+◌, ◌*◌, ◌^◌, ◌<◌, ◌≤◌, nat_lt, ◌==◌, if◌then◌else◌, List, [], ◌∷◌, ◌++◌, length, take, drop, Option, Some, None}
use Rattle.std.specs.Int.{w64, from_le_bytes, to_le_bytes}
use Rattle.std.specs.List.{AllByRecursion, flat_map}
use Rattle.image_update.specs.declared.steps.Step.{Step}
use Rattle.image_update.specs.declared.refusals.Unread.{Unread}
use Rattle.image_update.specs.declared.refusals.Unread.TheVariants.{TooLarge, Cut, Uneven}
use Rattle.image_update.specs.Changes.{Changes}

-- a number in eight bytes
unfoldable pub long : ℕ → List ℕ
long n = to_le_bytes w64 n

-- the number that eight bytes begin with
unfoldable pub long_in : List ℕ → ℕ
long_in bytes = from_le_bytes w64 (take 8 bytes)

-- the 24 bytes of a step
unfoldable pub step_bytes : Step → List ℕ
step_bytes s = long s.keep ++ (long s.skip ++ long s.put)

-- the one encoding of changes
unfoldable pub encoded : Changes → List ℕ
encoded c = long (length c.steps) ++ (flat_map step_bytes c.steps ++ c.put)

-- how many bytes it has
abbrev pub encoded_length : Changes → ℕ
encoded_length c = 8 + 24 * length c.steps + length c.put

-- how many bytes steps put
abbrev pub count_put : List Step → ℕ
count_put [] = 0
count_put (s ∷ steps) = s.put + count_put steps

-- the bytes are as many as the steps put
abbrev pub IsEven : Changes → Type 0
IsEven c = count_put c.steps ≡ length c.put

-- a step has an encoding: its numbers are in their ranges
pub record IsStep (s : Step) : Type 0 where
  pub keep : s.keep < 2 ^ 64
  pub skip : s.skip < 2 ^ 64
  pub put : s.put < 2 ^ 64

-- changes have an encoding: the bytes are as many as the steps put, and all of it isn't longer than an encoding may be
pub record IsDifference (c : Changes) : Type 0 where
  pub steps : AllByRecursion IsStep c.steps
  pub even : IsEven c
  pub small : encoded_length c ≤ 2 ^ 24

-- ---- reading

-- the step that bytes begin with
unfoldable pub step_in : List ℕ → Step
step_in bytes = record { keep = long_in bytes; skip = long_in (drop 8 bytes); put = long_in (drop 16 bytes) }

-- the first n steps
abbrev pub steps_in : ℕ → List ℕ → List Step
steps_in zero bytes = []
steps_in (suc n) bytes = step_in bytes ∷ steps_in n (drop 24 bytes)

-- the changes that bytes encode, whatever these are
abbrev pub changes_in : List ℕ → Changes
changes_in bytes = record {
  steps = steps_in (long_in bytes) (drop 8 bytes);
  put = drop (24 * long_in bytes) (drop 8 bytes);
}

-- Why bytes encode nothing, if they don't: they are too many, they end before the steps do, or those after the steps aren't as many as
-- these put.
abbrev pub fault_of : List ℕ → Option Unread
fault_of bytes =
    if nat_lt (2 ^ 24) (length bytes) then Some TooLarge
    else (if nat_lt (length bytes) (8 + 24 * long_in bytes) then Some Cut
    else (if count_put (changes_in bytes).steps == length (changes_in bytes).put then None else Some Uneven))
