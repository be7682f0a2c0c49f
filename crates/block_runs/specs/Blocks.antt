-- Which blocks runs write.
use Rattle.std.specs.Prelude.{◌≡◌, ◌≢◌, ℕ, ◌+◌, ◌-◌, ◌/◌, ◌%◌, ◌<◌, ◌≤◌, nat_le, ◌&&◌, if◌then◌else◌, List, [], ◌∷◌, length, slice_index, Some}
use Rattle.s4_types.specs.declared.limits.TheConstants.{BLOCK_BYTES}
use Rattle.block_runs.specs.declared.running.Run.{Run}
use Rattle.block_runs.specs.Runs.{IsSized, runs_to}

-- A block differs: one of its bytes does. What is past the end of a list that is too short is a zero.
abbrev pub DiffersIn : List ℕ → List ℕ → ℕ → Type 0
DiffersIn bytes now k = (j : ℕ) × (j / BLOCK_BYTES ≡ k) × (j < length bytes) × (slice_index bytes j ≢ slice_index now j)

-- A block lies between two that differ, which no more than this many lie between.
pub record IsBetween (bytes now : List ℕ) (gap k : ℕ) : Type 0 where
  pub low : ℕ
  pub high : ℕ
  pub low_differs : DiffersIn bytes now low
  pub high_differs : DiffersIn bytes now high
  pub above : low < k
  pub below : k < high
  pub near : high - (low + 1) ≤ gap

-- how many of these runs write a block
abbrev pub times_written : ℕ → List Run → ℕ
times_written k [] = 0
times_written k (r ∷ rs) = (if nat_le (r.offset / BLOCK_BYTES) k && nat_le k ((r.end - 1) / BLOCK_BYTES) then 1 else 0) + times_written k rs

-- how many blocks a run has bytes of
abbrev pub blocks_in : Run → ℕ
blocks_in r = (r.end - 1) / BLOCK_BYTES - r.offset / BLOCK_BYTES + 1

-- how many are written, run by run
abbrev pub blocks_in_all : List Run → ℕ
blocks_in_all [] = 0
blocks_in_all (r ∷ rs) = blocks_in r + blocks_in_all rs

-- Each block that differs is written once, and no other is.
abbrev pub RunsWriteEachOnce : Type 0
RunsWriteEachOnce = (bytes now : List ℕ) (k : ℕ) → (DiffersIn bytes now k → times_written k (runs_to 0 bytes now) ≡ 1) × ((DiffersIn bytes now k → ⊥) → times_written k (runs_to 0 bytes now) ≡ 0)

-- By runs that are joined each block that differs is written once, and so is each that lies between two that do, near each other; and no other is.
abbrev pub JoinedRunsWriteEachOnce : Type 0
JoinedRunsWriteEachOnce =
    (gap : ℕ) (bytes now : List ℕ) (k : ℕ)
    → (DiffersIn bytes now k → times_written k (runs_to gap bytes now) ≡ 1)
    × (IsBetween bytes now gap k → times_written k (runs_to gap bytes now) ≡ 1)
    × ((DiffersIn bytes now k → ⊥) → (IsBetween bytes now gap k → ⊥) → times_written k (runs_to gap bytes now) ≡ 0)

-- Where bytes are cut in the midst of a block, that block is written by none.
abbrev pub NoCutBlockIsWritten : Type 0
NoCutBlockIsWritten = (gap : ℕ) (bytes now : List ℕ) (size : ℕ) → IsSized bytes now (Some size) → length bytes < length now → 0 < size % BLOCK_BYTES → times_written (size / BLOCK_BYTES) (runs_to gap bytes now) ≡ 0
