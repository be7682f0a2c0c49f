-- The table that the frames of an image tell.
use Rattle.std.specs.Prelude.{◌≡◌, ◌≢◌, ℕ, ◌<◌, ◌≤◌, List, [], length, drop, slice_index_or}
use Rattle.codec.specs.Summary.{SpellsSummary}
use Rattle.image_parts.specs.Frames.{FrameFields, state_of, generation_of, blocks_of}
use Rattle.segment_word.specs.Frames.{Free, Frame}
use Rattle.segment_word.specs.Layout.{phase_of, frame_at, block_bytes}
use Rattle.segment_table.specs.declared.slots.Slot.{Slot}
use Rattle.segment_table.specs.Table.{Table, slots_at}
use Rattle.segment_table.specs.Sealing.{summary_of}

-- is where a list has no frame of that number
abbrev pub no_part : FrameFields
no_part = record { word = 0; contents = [] }

-- block b of a frame of an image; block 0 is its summary
abbrev pub block_in : FrameFields → ℕ → List ℕ
block_in f b = slice_index_or (blocks_of f.contents) b []

-- The frame of this number in an image is a frame of a table: it has the state and the generation that its word tells. A free
-- one has no used block. Of any other the first block is the summary that tells the used ones, which have the image's bytes.
pub record IsFrameOf (number : ℕ) (f : FrameFields) (k : Frame) (slots : List Slot) : Type 0 where
  pub phase : k.phase ≡ phase_of (state_of f.word)
  pub generation : k.generation ≡ generation_of f.word
  pub free : k.phase ≡ Free → slots ≡ []
  pub summary : k.phase ≢ Free → SpellsSummary (drop 1 (blocks_of f.contents)) (block_in f 0) (summary_of number k slots)
  pub blocks : k.phase ≢ Free → (b : ℕ) → 1 ≤ b → b ≤ length slots → block_bytes k.contents b ≡ block_in f b

-- the frames of an image are those of a table, in their order
pub record IsTableOf (frames : List FrameFields) (t : Table) : Type 0 where
  pub frame_count : length t.seat.frames ≡ length frames
  pub slot_count : length t.slots ≡ length frames
  pub each : (n : ℕ) → n < length frames → IsFrameOf n (slice_index_or frames n no_part) (frame_at t.seat.frames n) (slots_at t.slots n)
