-- What holds of a table before its frames are shared.
use Rattle.std.specs.Prelude.{◌≡◌, ℕ, ◌<◌, ◌≤◌, List, length, Option}
use Rattle.std.specs.Option.{option_to_list}
use Rattle.s4_types.specs.declared.limits.TheConstants.{FEWEST_FRAMES}
use Rattle.segment_word.specs.Frames.{Frame, no_releases}
use Rattle.segment_word.specs.Layout.{frame_at}
use Rattle.segment_word.specs.AcceptHandles.{no_table}
use Rattle.segment_table.specs.declared.slots.Slot.{Slot}
use Rattle.segment_table.specs.Table.{Table, slots_at}
use Rattle.segment_table.specs.Room.{is_filling, numbers}
use Rattle.segment_table.specs.Sealing.{IsFit, IsPartFilled}

-- the table of frames that aren't shared yet: it has no name, and no release was tried
abbrev pub unnamed : List Frame → List (List Slot) → Table
unnamed frames slots = record { seat = record { table = no_table; frames = frames; releases = no_releases }; slots = slots }

-- What holds of its frames: the used blocks of each fit what it is for, and at most one is open, with 1 to 14 used blocks.
pub record IsSoundToBuild (t : Table) (current : Option ℕ) : Type 0 where
  pub least : FEWEST_FRAMES ≤ length t.seat.frames
  pub most : length t.seat.frames ≤ 1024
  pub counted : length t.slots ≡ length t.seat.frames
  pub filling : option_to_list current ≡ numbers is_filling 0 t.seat.frames
  pub fit : (f : ℕ) → f < length t.seat.frames → IsFit f (frame_at t.seat.frames f) (slots_at t.slots f)
  pub part_filled : IsPartFilled t
