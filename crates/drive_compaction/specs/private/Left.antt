-- How many blocks of each frame are left to be appended.
use Rattle.std.specs.Prelude.{ℕ, ◌-◌, if◌then◌else◌, length}
use Rattle.segment_word.specs.Frames.{is_open}
use Rattle.segment_word.specs.Layout.{frame_at}
use Rattle.segment_table.specs.Table.{Table, slots_at}
use Rattle.segment_table.specs.Room.{can_open}

-- how many of frame f: what isn't used of the open one, all of a free one that isn't retired, and else none
abbrev pub left_in : Table → ℕ → ℕ
left_in t f = let frame = frame_at t.seat.frames f in if is_open frame.phase then 15 - length (slots_at t.slots f) else (if can_open frame then 15 else 0)
