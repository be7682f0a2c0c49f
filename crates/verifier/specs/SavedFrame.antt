-- One frame of a table as an image has it.
use Rattle.std.specs.Prelude.{◌≡◌, ℕ, List, ◌++◌}
use Rattle.image_parts.specs.Frames.{FrameFields, IsFrame, KeepsFrameRules, frame_bytes}
use Rattle.segment_word.specs.Layout.{frame_at}
use Rattle.segment_table.specs.Table.{Table, slots_at}
use Rattle.verifier.specs.Tables.{IsFrameOf}

-- Bytes are these with the frame of that number of a table after them.
pub record AddsFrame (t : Table) (number : ℕ) (before after : List ℕ) : Type 0 where
  pub frame : FrameFields
  pub is : IsFrame frame
  pub rules : KeepsFrameRules number frame
  pub of : IsFrameOf number frame (frame_at t.seat.frames number) (slots_at t.slots number)
  pub bytes : after ≡ before ++ frame_bytes frame
