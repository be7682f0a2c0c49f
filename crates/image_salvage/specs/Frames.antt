-- The frames of an image that vouch for themselves, and the table that has their blocks alone.
use Rattle.std.specs.Prelude.{◌≡◌, ◌≢◌, ◌⊎◌, ◌↔◌, ◌++◌, ◌∷◌, ℕ, ◌<◌, List, length, drop, slice_index_or, []}
use Rattle.std.specs.List.{Contains}
use Rattle.codec.specs.Summary.{SummaryFields, SpellsSummary}
use Rattle.image_parts.specs.Frames.{FrameFields, state_of, blocks_of, KeepsFrameRules}
use Rattle.segment_word.specs.Frames.{Free, Sealed, Frame}
use Rattle.segment_word.specs.Layout.{frame_at, block_bytes}
use Rattle.segment_table.specs.declared.slots.Slot.{Slot}
use Rattle.segment_table.specs.Slots.{unheld}
use Rattle.segment_table.specs.Table.{Table, slots_at}
use Rattle.verifier.specs.Tables.{no_part}

-- A frame of an image is whole: its word says that it is open or sealed, and it keeps the rules of the frame of its number, so that its
-- first block is its summary, with the right digest of the blocks after it.
pub record IsWhole (number : ℕ) (f : FrameFields) : Type 0 where
  pub state : (state_of f.word ≡ 1) ⊎ (state_of f.word ≡ 2)
  pub rules : KeepsFrameRules number f

-- A frame of a table has the blocks of a frame of an image, at the generation and with the roles that its summary tells.
pub record HasBlocksOf (number : ℕ) (f : FrameFields) (k : Frame) (slots : List Slot) : Type 0 where
  pub summary : SummaryFields
  pub spelled : SpellsSummary (drop 1 (blocks_of f.contents)) (slice_index_or (blocks_of f.contents) 0 []) summary
  pub numbered : summary.frame ≡ number
  pub phase : k.phase ≡ Sealed
  pub generation : k.generation ≡ summary.generation
  pub roles : slots ≡ unheld summary.roles
  pub blocks : (b : ℕ) → b < 16 → block_bytes k.contents b ≡ slice_index_or (blocks_of f.contents) b []

-- It has them where the frame of the image is whole, and else it is free: no pointer names a block of it.
abbrev pub IsSeen : ℕ → FrameFields → Frame → List Slot → Type 0
IsSeen number f k slots = (IsWhole number f × HasBlocksOf number f k slots) ⊎ ((IsWhole number f → ⊥) × (k.phase ≡ Free))

-- So it is of each frame: the used blocks of the table are those of whole frames alone.
pub record Sees (frames : List FrameFields) (t : Table) : Type 0 where
  pub frame_count : length t.seat.frames ≡ length frames
  pub slot_count : length t.slots ≡ length frames
  pub each : (n : ℕ) → n < length frames → IsSeen n (slice_index_or frames n no_part) (frame_at t.seat.frames n) (slots_at t.slots n)

-- A frame is lost: its word says that it is open or sealed, and it isn't whole.
abbrev pub IsLostFrame : ℕ → FrameFields → Type 0
IsLostFrame number f = ((state_of f.word ≡ 1) ⊎ (state_of f.word ≡ 2)) × (IsWhole number f → ⊥)

-- These are the numbers of the frames that are lost, of the first n.
abbrev pub AreLostOf : List FrameFields → ℕ → List ℕ → Type 0
AreLostOf frames n lost = (k : ℕ) → Contains lost k ↔ ((k < n) × IsLostFrame k (slice_index_or frames k no_part))

-- No other frame of a table has changed than this one.
pub record ChangesAlone (number : ℕ) (old new : Table) : Type 0 where
  pub frames : (i : ℕ) → i ≢ number → frame_at new.seat.frames i ≡ frame_at old.seat.frames i
  pub slots : (i : ℕ) → i ≢ number → slots_at new.slots i ≡ slots_at old.slots i
  pub frame_count : length new.seat.frames ≡ length old.seat.frames
  pub slot_count : length new.slots ≡ length old.slots

-- The number of a frame was noted where it is lost, and else nothing was.
abbrev pub NotesLost : ℕ → FrameFields → List ℕ → List ℕ → Type 0
NotesLost number f old new = (IsLostFrame number f × (new ≡ old ++ number ∷ [])) ⊎ ((IsLostFrame number f → ⊥) × (new ≡ old))
