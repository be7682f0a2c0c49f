-- How many data blocks are held.
use Rattle.std.specs.Prelude.{ℕ, if◌then◌else◌, length}
use Rattle.s4_types.specs.declared.limits.TheConstants.{PAYLOAD_BLOCKS}
use Rattle.segment_word.specs.Layout.{frame_at}
use Rattle.segment_table.specs.Table.{Table, held_at}
use Rattle.segment_table.specs.Room.{sum_over}
use Rattle.segment_table.specs.Counts.{place_at}
use Rattle.segment_copier.specs.Moves.{is_data}
use Rattle.drive_compaction.specs.Choosing.{is_life}

-- 1 where block b of frame f is held and of data, else 0
abbrev pub data_at : Table → ℕ → ℕ → ℕ
data_at t f b = if is_data (held_at t (place_at t f b)) then 1 else 0

-- how many of the payload blocks of frame f are, blocks 1 to 15; none where no pointer has the frame's generation
abbrev pub data_in : Table → ℕ → ℕ
data_in t f = if is_life (frame_at t.seat.frames f).generation then sum_over (data_at t f) 1 PAYLOAD_BLOCKS else 0

-- how many data blocks of all frames are held
abbrev pub data_blocks : Table → ℕ
data_blocks t = sum_over (data_in t) 0 (length t.seat.frames)
