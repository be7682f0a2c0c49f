-- What contracts see of a segment table, and what a place of it holds.
use Rattle.std.specs.Prelude.{◌≡◌, ℕ, Bool, false, ◌==◌, if◌then◌else◌, List, [], ◌∷◌, length, slice_index_or, Option, Some, None, IfSome}
use Rattle.s4_types.specs.Pointer.{Place}
use Rattle.block_log.specs.Log.{Stored}
use Rattle.codec.specs.declared.summaries.BlockRole.{BlockRole}
use Rattle.segment_word.specs.Frames.{Frame}
use Rattle.segment_word.specs.Layout.{frame_at, block_bytes}
use Rattle.segment_word.specs.Handles.{Drive}
use Rattle.segment_table.specs.declared.slots.Slot.{Slot}
use Rattle.segment_table.specs.Slots.{no_slot, is_held, data_names}

-- the drive's frames, and for each of them its used payload blocks, block 1 first; a free frame has none
pub record Table : Type 0 where
  pub seat : Drive
  pub slots : List (List Slot)

-- the used blocks of frame f
abbrev pub slots_at : List (List Slot) → ℕ → List Slot
slots_at slots f = slice_index_or slots f []

-- the used block of that number; block 0 is the summary
abbrev pub block_slot : List Slot → ℕ → Slot
block_slot slots b = slice_index_or (no_slot ∷ slots) b no_slot

-- a held block with its bytes
abbrev pub stored : Slot → List ℕ → Option Stored
stored slot bytes = if is_held slot then Some (record { kind = slot.role.kind; object = slot.role.object; bytes = bytes }) else None

-- what block b of a frame holds for a pointer of generation g
abbrev pub held_block : Frame → List Slot → ℕ → ℕ → Option Stored
held_block k slots b g = if k.generation == g then stored (block_slot slots b) (block_bytes k.contents b) else None

-- what a place of the table holds: a pointer to an earlier life of its frame leads to nothing
abbrev pub held_at : Table → Place → Option Stored
held_at t p = held_block (frame_at t.seat.frames p.frame) (slots_at t.slots p.frame) p.block p.generation

-- how often block b of a frame is named for a pointer of generation g
abbrev pub named_block : Frame → List Slot → ℕ → ℕ → ℕ
named_block k slots b g = if k.generation == g then data_names (block_slot slots b) else 0

-- how often the data block at a place of the table is named
abbrev pub named_at : Table → Place → ℕ
named_at t p = named_block (frame_at t.seat.frames p.frame) (slots_at t.slots p.frame) p.block p.generation

-- each held block has 512 bytes
abbrev pub HoldsWholeBlocks : Table → Type 0
HoldsWholeBlocks t = (p : Place) → IfSome (held_at t p) (λ block. length block.bytes ≡ 512)

-- what a held block is for
abbrev pub role_of : Stored → BlockRole
role_of block = record { kind = block.kind; object = block.object }

-- whether a block is held, and this object's
abbrev pub is_of : ℕ → Option Stored → Bool
is_of o None = false
is_of o (Some block) = block.object == o
