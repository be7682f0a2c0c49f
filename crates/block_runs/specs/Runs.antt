-- Where two lists of bytes differ, as runs of neighbouring blocks.
use Rattle.std.specs.Prelude.{◌≡◌, ◌≢◌, ◌⊎◌, ℕ, zero, suc, ◌+◌, ◌-◌, ◌/◌, ◌*◌, ◌<◌, ◌≤◌, nat_lt, nat_le, ◌==◌, ◌&&◌, ◌||◌, not, if◌then◌else◌, Bool, true, false, List, [], ◌∷◌, length, take, slice_index, Option, None, Some}
use Rattle.s4_types.specs.declared.limits.TheConstants.{BLOCK_BYTES}
use Rattle.s4_model.specs.Effect.{resized, written}
use Rattle.s4_model.specs.Step.{part}
use Rattle.block_runs.specs.declared.running.Run.{Run}

-- whether two lists differ at an index; past its end a list has zeros
abbrev pub differs : List ℕ → List ℕ → ℕ → Bool
differs bytes now i = not (slice_index bytes i == slice_index now i)

-- how many blocks lie between that of a byte and that of a later one
abbrev pub blocks_between : ℕ → ℕ → ℕ
blocks_between i j = j / BLOCK_BYTES - (i / BLOCK_BYTES + 1)

-- runs with one more byte in front: it is of the first of them, where no more than this many blocks lie between
abbrev pub with_byte : ℕ → ℕ → List Run → List Run
with_byte gap i [] = record { offset = i; end = i + 1 } ∷ []
with_byte gap i (r ∷ rs) = if nat_le (blocks_between i r.offset) gap then record { offset = i; end = r.end } ∷ rs else record { offset = i; end = i + 1 } ∷ (r ∷ rs)

-- these, and those of the bytes below an index that are of a kind
abbrev pub runs_below : (ℕ → Bool) → ℕ → ℕ → List Run → List Run
runs_below d gap zero rs = rs
runs_below d gap (suc n) rs = runs_below d gap n (if d n then with_byte gap n rs else rs)

-- ---- what they are

-- A block has a byte of this kind.
abbrev pub HasByte : (ℕ → Bool) → ℕ → ℕ → Type 0
HasByte d count k = (j : ℕ) × (j / BLOCK_BYTES ≡ k) × (j < count) × (d j ≡ true)

-- A block lies between two that have one, which no more than this many lie between.
pub record LiesBetween (d : ℕ → Bool) (gap count k : ℕ) : Type 0 where
  pub low : ℕ
  pub high : ℕ
  pub low_is : d low ≡ true
  pub high_is : d high ≡ true
  pub above : low / BLOCK_BYTES < k
  pub below : k < high / BLOCK_BYTES
  pub near : blocks_between low high ≤ gap
  pub within : high < count

-- A run from an index and a block on, of bytes of which there are this many: from the first of a kind to one that is, such that each of its
-- blocks has one, or lies between two that do, near each other.
pub record IsRun (d : ℕ → Bool) (gap count i block : ℕ) (r : Run) : Type 0 where
  pub from : i ≤ r.offset
  pub block_from : block ≤ r.offset / BLOCK_BYTES
  pub some : r.offset < r.end
  pub within : r.end ≤ count
  pub before : (j : ℕ) → i ≤ j → j < r.offset → d j ≡ false
  pub first : d r.offset ≡ true
  pub last : d (r.end - 1) ≡ true
  pub filled : (k : ℕ) → r.offset / BLOCK_BYTES ≤ k → k ≤ (r.end - 1) / BLOCK_BYTES → HasByte d count k ⊎ LiesBetween d gap count k

-- Runs from an index and a block on, with all bytes of a kind from there: more blocks than these lie between the last of one and the first of
-- the next.
abbrev pub AreRuns : (ℕ → Bool) → ℕ → ℕ → ℕ → ℕ → List Run → Type 0
AreRuns d gap count i block [] = (j : ℕ) → i ≤ j → j < count → d j ≡ false
AreRuns d gap count i block (r ∷ rs) = IsRun d gap count i block r × AreRuns d gap count (r.end) ((r.end - 1) / BLOCK_BYTES + (gap + 2)) rs

-- ---- what is cut first

-- whether one of this many indexes from the first on is of a kind
abbrev pub any_between : (ℕ → Bool) → (first count : ℕ) → Bool
any_between d first zero = false
any_between d first (suc n) = d (first + n) || any_between d first n

-- where the block begins in which this many bytes end
abbrev pub end_block : ℕ → ℕ
end_block size = size / BLOCK_BYTES * BLOCK_BYTES

-- Whether longer bytes are cut in front of the block in which these end: one of those that would stay of it differs, so that it is written anyway.
abbrev pub is_cut_whole : List ℕ → List ℕ → Bool
is_cut_whole bytes now = nat_lt (length bytes) (length now) && any_between (differs bytes now) (end_block (length bytes)) (length bytes - end_block (length bytes))

-- to how many bytes longer ones are cut
abbrev pub cut_size : List ℕ → List ℕ → ℕ
cut_size bytes now = if is_cut_whole bytes now then end_block (length bytes) else length bytes

-- what is there once that block is cut off, or all where it isn't
abbrev pub kept : List ℕ → List ℕ → List ℕ
kept bytes now = if is_cut_whole bytes now then take (end_block (length bytes)) now else now

-- Whether a byte has to be written over it: it differs; or it is the last, and the block is cut off in which it is, so that there are all bytes.
abbrev pub is_put : List ℕ → List ℕ → ℕ → Bool
is_put bytes now i = differs bytes (kept bytes now) i || (is_cut_whole bytes now && i + 1 == length bytes)

-- the runs that are written over it, of which those are one that no more than this many blocks lie between
abbrev pub runs_to : ℕ → List ℕ → List ℕ → List Run
runs_to gap bytes now = runs_below (is_put bytes now) gap (length bytes) []

abbrev pub RunsAreExact : Type 0
RunsAreExact = (gap : ℕ) (bytes now : List ℕ) → AreRuns (is_put bytes now) gap (length bytes) 0 0 (runs_to gap bytes now)

-- Those that are joined are no more.
abbrev pub JoinedRunsAreFewer : Type 0
JoinedRunsAreFewer = (gap : ℕ) (bytes now : List ℕ) → length (runs_to gap bytes now) ≤ length (runs_to 0 bytes now)

-- ---- what writing them comes to

-- bytes of a list written over what is there, one run after the other
abbrev pub written_over : List ℕ → List Run → List ℕ → List ℕ
written_over bytes [] now = now
written_over bytes (r ∷ rs) now = written_over bytes rs (written r.offset (part bytes r.offset (r.end - r.offset)) now)

-- Bytes are cut where there are more than there were, and lengthened where there are fewer and the last that was is a zero.
abbrev pub IsSized : List ℕ → List ℕ → Option ℕ → Type 0
IsSized bytes now None = (length now ≤ length bytes) × ((length now ≡ length bytes) ⊎ (slice_index bytes (length bytes - 1) ≢ 0))
IsSized bytes now (Some size) = ((length bytes < length now) × (size ≡ cut_size bytes now)) ⊎ ((length now < length bytes) × (slice_index bytes (length bytes - 1) ≡ 0) × (size ≡ length bytes))

abbrev pub sized : Option ℕ → List ℕ → List ℕ
sized None now = now
sized (Some size) now = resized size now

abbrev pub RunsAreWhole : Type 0
RunsAreWhole = (gap : ℕ) (bytes now : List ℕ) (size : Option ℕ) → IsSized bytes now size → written_over bytes (runs_to gap bytes now) (sized size now) ≡ bytes
