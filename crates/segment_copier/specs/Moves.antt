-- What a move of an object's blocks out of a frame has once it is planned, and once it is copied.
use Rattle.std.specs.Prelude.{◌≡◌, ℕ, ◌<◌, Bool, true, false, List, [], ◌∷◌, filter, map, Option, None, Some}
use Rattle.std.specs.List.{AllByRecursion}
use Rattle.atomic_table.specs.Seated.{TableId}
use Rattle.s4_types.specs.Pointer.{Place}
use Rattle.block_log.specs.Log.{Stored, same_kind}
use Rattle.block_log.specs.declared.kinds.BlockKind.TheVariants.{Data}
use Rattle.segment_word.specs.Frames.{Frame, Pinned}
use Rattle.segment_word.specs.Handles.{Held, Remembered, pin_of}
use Rattle.segment_word.specs.Layout.{block_bytes}
use Rattle.segment_table.specs.Table.{Table, held_at}
use Rattle.segment_table.specs.Room.{pointers_in}
use Rattle.time_read.specs.Plans.{contents_pinned}
use Rattle.version_store.specs.declared.copies.CopiedBlock.{CopiedBlock}
use Rattle.interleaving.specs.Moving.{Move}

-- whether a data block is held
abbrev pub is_data : Option Stored → Bool
is_data None = false
is_data (Some block) = same_kind Data block.kind

-- the pointers to the held data blocks of an object in a frame, by ascending block, where the frame is sealed
abbrev pub data_in : Table → ℕ → ℕ → List Place
data_in t o f = filter (λ p. is_data (held_at t p)) (pointers_in t o f)

-- a planned move: what it is of, where the data blocks are that it copies, and the pin of their frame, where there is
-- something to move
pub record PlannedMove : Type 0 where
  pub what : Move
  pub places : List Place
  pub pin : Option Held

-- a copied move: what it is of, the copies, and what its pin counted on
pub record CopiedMove : Type 0 where
  pub what : Move
  pub copies : List CopiedBlock
  pub memory : Option Remembered

-- the blocks at these places, with the bytes that pinned frames have there
abbrev pub copies_of : List Pinned → List Place → List CopiedBlock
copies_of pins places = map (λ p. record { place = p; bytes = block_bytes (contents_pinned p.frame pins) p.block }) places

-- what is remembered of what a pin counted on
abbrev pub memory_of : Option Held → Option Remembered
memory_of None = None
memory_of (Some held) = Some (record { table = held.table; remembered = held.pins })

-- A planned move counts on its frame alone, as the frame is in this drive's table, where there is something to move; else on
-- none.
abbrev pub CountsOnFrame : TableId → List Frame → ℕ → Bool → Option Held → Type 0
CountsOnFrame table frames f true pin = pin ≡ None
CountsOnFrame table frames f false None = ⊥
CountsOnFrame table frames f false (Some held) = (held.table ≡ table) × (held.pins ≡ pin_of frames f ∷ [])

-- a place is a block of a pinned frame, at the generation that it had
abbrev pub IsPlaceIn : Pinned → Place → Type 0
IsPlaceIn q p = (p.frame ≡ q.number) × ((p.generation ≡ q.generation) × (p.block < 16))

-- a copy is of a block of a pinned frame
abbrev pub IsCopyFrom : Pinned → CopiedBlock → Type 0
IsCopyFrom q c = IsPlaceIn q c.place × (c.bytes ≡ block_bytes q.contents c.place.block)

-- The pin of a planned move is of this table; it counts on one frame, in which the places are.
pub record IsPinOver (frames : TableId) (places : List Place) (held : Held) : Type 0 where
  pub table : held.table ≡ frames
  pub pinned : Pinned
  pub alone : held.pins ≡ pinned ∷ []
  pub inside : AllByRecursion (IsPlaceIn pinned) places

-- a planned move keeps its places; with no pin it has none
abbrev pub IsKeptPlan : TableId → List Place → Option Held → Type 0
IsKeptPlan frames places None = places ≡ []
IsKeptPlan frames places (Some held) = IsPinOver frames places held

-- What a copied move remembers is of this table, and of one frame, from which the copies are.
pub record IsMemoryOver (frames : TableId) (copies : List CopiedBlock) (memory : Remembered) : Type 0 where
  pub table : memory.table ≡ frames
  pub pinned : Pinned
  pub alone : memory.remembered ≡ pinned ∷ []
  pub inside : AllByRecursion (IsCopyFrom pinned) copies

-- a copied move with nothing to remember has no copies
abbrev pub IsKeptCopy : TableId → List CopiedBlock → Option Remembered → Type 0
IsKeptCopy frames copies None = copies ≡ []
IsKeptCopy frames copies (Some memory) = IsMemoryOver frames copies memory
