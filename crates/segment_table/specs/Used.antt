-- What the used blocks of open and sealed frames are, held or not.
use Rattle.std.specs.Prelude.{◌≡◌, ℕ, zero, suc, Bool, ◌==◌, ◌||◌, ◌&&◌, if◌then◌else◌, List, length, slice_get, Option, Some, None, IfSome, option_map}
use Rattle.s4_types.specs.Pointer.{Place}
use Rattle.block_log.specs.Log.{Stored}
use Rattle.segment_word.specs.Frames.{Frame, is_open, is_sealed}
use Rattle.segment_word.specs.Layout.{frame_at, block_bytes}
use Rattle.segment_table.specs.declared.slots.Slot.{Slot}
use Rattle.segment_table.specs.Table.{Table, slots_at, held_at}

-- the used block of that number, from 1 on; block 0 is the summary
abbrev pub used_slot : List Slot → ℕ → Option Slot
used_slot slots zero = None
used_slot slots (suc b) = slice_get slots b

-- a used block with its bytes
abbrev pub with_bytes : List ℕ → Slot → Stored
with_bytes bytes slot = record { kind = slot.role.kind; object = slot.role.object; bytes = bytes }

-- whether pointers may name blocks of a frame: it is open or sealed
abbrev pub is_named : Frame → Bool
is_named k = is_open k.phase || is_sealed k.phase

-- what a pointer of generation g names in block b of a frame
abbrev pub used_block : Frame → List Slot → ℕ → ℕ → Option Stored
used_block k slots b g =
    if is_named k && k.generation == g then option_map (with_bytes (block_bytes k.contents b)) (used_slot slots b) else None

-- The used block that a place names in an open or sealed frame at the frame's generation, held or not.
abbrev pub used_at : Table → Place → Option Stored
used_at t p = used_block (frame_at t.seat.frames p.frame) (slots_at t.slots p.frame) p.block p.generation

-- each used block of an open or sealed frame has 512 bytes
abbrev pub HasWholeBlocks : Table → Type 0
HasWholeBlocks t = (p : Place) → IfSome (used_at t p) (λ block. length block.bytes ≡ 512)

-- what is held is used
abbrev pub HoldsUsedBlocks : Table → Type 0
HoldsUsedBlocks t = (p : Place) (block : Stored) → held_at t p ≡ Some block → used_at t p ≡ Some block
