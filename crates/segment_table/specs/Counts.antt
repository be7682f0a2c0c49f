-- How many places name a block of a frame, and how many blocks of a frame are held.
use Rattle.std.specs.Prelude.{ℕ, is_some, if◌then◌else◌, Option, Some, None}
use Rattle.std.specs.List.{count_by}
use Rattle.s4_types.specs.Pointer.{Place}
use Rattle.block_log.specs.declared.kinds.BlockKind.TheVariants.{Data}
use Rattle.block_log.specs.Log.{Log, Stored, same_kind}
use Rattle.segment_word.specs.Layout.{frame_at}
use Rattle.segment_table.specs.declared.slots.Slot.{Slot}
use Rattle.segment_table.specs.Slots.{is_held}
use Rattle.segment_table.specs.Table.{Table, held_at}
use Rattle.segment_table.specs.Room.{log_of, whole_of}

-- how many places name a used block: as many as are counted where it is of data, and one where it is another that is held
abbrev pub slot_names : Slot → ℕ
slot_names slot = if same_kind slot.role.kind Data then slot.named else (if is_held slot then 1 else 0)

-- how many places name a held block, of which this many names are counted where it is of data; 0 where nothing is held
abbrev pub held_names : Option Stored → ℕ → ℕ
held_names None n = 0
held_names (Some block) n = if same_kind block.kind Data then n else 1

-- how many places name the block that is held at a place of a log: 0 where none is
abbrev pub log_names : Log → Place → ℕ
log_names log p = held_names (log.held p) (log.named p)

-- the place of a block of a frame, at the generation that the frame has
abbrev pub place_at : Table → ℕ → ℕ → Place
place_at t f b = record { frame = f; block = b; generation = (frame_at t.seat.frames f).generation }

-- how many places name that block: 0 where it isn't held, or where no such frame or block is there
abbrev pub name_count : Table → ℕ → ℕ → ℕ
name_count t f b = log_names (log_of t) (place_at t f b)

-- how many of the payload blocks of a frame are held: 0 where no such frame is there
abbrev pub held_count : Table → ℕ → ℕ
held_count t f = count_by (λ p. is_some (held_at t p)) (whole_of t f)
