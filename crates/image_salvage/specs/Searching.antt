-- The frames that are found in bytes by themselves, whatever is around them.
use Rattle.std.specs.Prelude.{◌≡◌, ◌≢◌, ◌⊎◌, ℕ, ◌+◌, ◌<◌, ◌≤◌, Bool, true, false, List, [], length, take, drop, slice_index_or}
use Rattle.std.specs.List.{Contains}
use Rattle.s4_types.specs.declared.limits.TheConstants.{MOST_FRAMES}
use Rattle.codec.specs.Summary.{SummaryFields, SpellsSummary}
use Rattle.image_parts.specs.Frames.{blocks_of}
use Rattle.segment_word.specs.Frames.{Free, Sealed, Frame}
use Rattle.segment_word.specs.Layout.{frame_at, block_bytes}
use Rattle.segment_table.specs.declared.slots.Slot.{Slot}
use Rattle.segment_table.specs.Slots.{unheld}
use Rattle.segment_table.specs.Table.{Table, slots_at}
use Rattle.segment_table.specs.Used.{is_named}

-- ---- places

-- the 16 blocks that begin at a place of bytes
abbrev pub blocks_from : List ℕ → ℕ → List (List ℕ)
blocks_from bytes place = blocks_of (take 8192 (drop place bytes))

-- A frame begins at a place of bytes: its 16 blocks are there, and the first is the summary, with the right digest, of the others, for a
-- frame of a number that a drive can have.
pub record IsFrameAt (bytes : List ℕ) (place : ℕ) (summary : SummaryFields) : Type 0 where
  pub inside : place + 8192 ≤ length bytes
  pub number : summary.frame < MOST_FRAMES
  pub spelled : SpellsSummary (drop 1 (blocks_from bytes place)) (slice_index_or (blocks_from bytes place) 0 []) summary

-- a place is in one of the frames that begin at these
abbrev pub IsWithin : List ℕ → ℕ → Type 0
IsWithin places p = (q : ℕ) × Contains places q × (q ≤ p) × (p < q + 8192)

-- These are the places of all frames that are found: one begins at each, no two share a byte, and where another begins it does so within
-- one of these.
pub record AreFound (bytes : List ℕ) (places : List ℕ) : Type 0 where
  pub begin : (p : ℕ) → Contains places p → (summary : SummaryFields) × IsFrameAt bytes p summary
  pub apart : (p q : ℕ) → Contains places p → Contains places q → p < q → p + 8192 ≤ q
  pub all : (p : ℕ) (summary : SummaryFields) → IsFrameAt bytes p summary → IsWithin places p

-- The same as far as the places below n were looked at: up to next the bytes are those of frames that were found.
pub record AreFoundTo (bytes : List ℕ) (n next : ℕ) (places : List ℕ) : Type 0 where
  pub begin : (p : ℕ) → Contains places p → (summary : SummaryFields) × IsFrameAt bytes p summary
  pub apart : (p q : ℕ) → Contains places p → Contains places q → p < q → p + 8192 ≤ q
  pub all : (p : ℕ) (summary : SummaryFields) → p < n → IsFrameAt bytes p summary → IsWithin places p
  pub ends : (p : ℕ) → Contains places p → p + 8192 ≤ next
  pub skipped : (m : ℕ) → n ≤ m → m < next → IsWithin places m

-- ---- the table

-- A frame of a table has the blocks of the frame that begins at a place, at the generation and with the roles that its summary has.
pub record HasBlocksAt (bytes : List ℕ) (place number : ℕ) (k : Frame) (slots : List Slot) : Type 0 where
  pub summary : SummaryFields
  pub begins : IsFrameAt bytes place summary
  pub numbered : summary.frame ≡ number
  pub phase : k.phase ≡ Sealed
  pub generation : k.generation ≡ summary.generation
  pub roles : slots ≡ unheld summary.roles
  pub blocks : (b : ℕ) → b < 16 → block_bytes k.contents b ≡ slice_index_or (blocks_from bytes place) b []

-- Of the frames of a number that were found, the first begins at this place.
pub record IsFirstOf (bytes : List ℕ) (places : List ℕ) (number place : ℕ) : Type 0 where
  pub found : Contains places place
  pub first : (p : ℕ) (summary : SummaryFields) → Contains places p → IsFrameAt bytes p summary → summary.frame ≡ number → place ≤ p

-- a frame of a table has the blocks of the first that was found of its number
abbrev pub IsTaken : List ℕ → List ℕ → ℕ → Frame → List Slot → Type 0
IsTaken bytes places number k slots = (place : ℕ) × IsFirstOf bytes places number place × HasBlocksAt bytes place number k slots

-- none was found of the number of a frame, and it is free in the table: no pointer names a block of it
abbrev pub IsMissing : List ℕ → List ℕ → ℕ → Frame → Type 0
IsMissing bytes places number k =
    ((p : ℕ) (summary : SummaryFields) → Contains places p → IsFrameAt bytes p summary → summary.frame ≢ number) × (k.phase ≡ Free)

-- The table has all frames that are found in bytes: of each number the first, and no other block.
pub record Finds (bytes : List ℕ) (t : Table) : Type 0 where
  pub places : List ℕ
  pub are : AreFound bytes places
  pub frame_count : length t.seat.frames ≡ MOST_FRAMES
  pub slot_count : length t.slots ≡ MOST_FRAMES
  pub each : (n : ℕ) → n < MOST_FRAMES → IsTaken bytes places n (frame_at t.seat.frames n) (slots_at t.slots n) ⊎ IsMissing bytes places n (frame_at t.seat.frames n)

-- as far as the places below n were looked at, with which numbers were seen
pub record FindsTo (bytes : List ℕ) (n next : ℕ) (t : Table) (seen : List Bool) : Type 0 where
  pub places : List ℕ
  pub are : AreFoundTo bytes n next places
  pub frame_count : length t.seat.frames ≡ MOST_FRAMES
  pub slot_count : length t.slots ≡ MOST_FRAMES
  pub seen_count : length seen ≡ MOST_FRAMES
  pub each : (k : ℕ) → k < MOST_FRAMES → ((slice_index_or seen k false ≡ true) × IsTaken bytes places k (frame_at t.seat.frames k) (slots_at t.slots k)) ⊎ ((slice_index_or seen k false ≡ false) × IsMissing bytes places k (frame_at t.seat.frames k))

-- These are the generations of the frames of a table that aren't free, as many as it has frames.
pub record HasGenerations (t : Table) (generations : List ℕ) : Type 0 where
  pub count : length generations ≡ length t.seat.frames
  pub each : (k : ℕ) → is_named (frame_at t.seat.frames k) ≡ true → (frame_at t.seat.frames k).generation ≡ slice_index_or generations k 0
