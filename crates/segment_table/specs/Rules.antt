-- What holds of the frames of a table between calls.
use Rattle.std.specs.Prelude.{◌≡◌, ℕ, ◌+◌, ◌^◌, ◌<◌, ◌≤◌, length}
use Rattle.atomic_table.specs.Seated.{TableId}
use Rattle.s4_types.specs.Sizes.{IsFrameCount}
use Rattle.segment_word.specs.Layout.{frame_at}
use Rattle.segment_table.specs.Table.{Table, slots_at, HoldsWholeBlocks}
use Rattle.segment_table.specs.Used.{HoldsUsedBlocks}
use Rattle.segment_table.specs.Room.{is_filling, numbers, log_of}
use Rattle.segment_table.specs.Sealing.{IsFit, IsPartFilled}

-- The frames are those of this table of words, FEWEST_FRAMES to MOST_FRAMES. The used blocks of each frame fit what it is for,
-- so that a sealed frame encodes its summary in front of zeros in its unused blocks; at most one frame is open, with 1 to 14
-- used blocks. Each held block has 512 bytes and is used. The places that were ever taken and those ahead are fewer than 2^46,
-- over all lives of the frames.
pub record HasFramesInOrder (named : TableId) (t : Table) : Type 0 where
  pub table : t.seat.table ≡ named
  pub fit : (f : ℕ) → f < length t.seat.frames → IsFit f (frame_at t.seat.frames f) (slots_at t.slots f)
  pub one_open : length (numbers is_filling 0 t.seat.frames) ≤ 1
  pub whole : HoldsWholeBlocks t
  pub part_filled : IsPartFilled t
  pub used : HoldsUsedBlocks t
  pub count : IsFrameCount (length t.seat.frames)
  pub sizes : (length t.seat.frames ≤ 1024) × (length t.slots ≡ length t.seat.frames)
  pub bounded : (log_of t).spent + length (log_of t).ahead < 2 ^ 46
