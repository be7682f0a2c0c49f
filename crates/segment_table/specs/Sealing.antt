-- What a frame has in its blocks once it is sealed, and what holds of each frame of a table.
use Rattle.std.specs.Prelude.{◌≡◌, ℕ, zero, suc, ◌+◌, ◌^◌, ◌<◌, ◌≤◌, false, List, [], ◌∷◌, length, map, reverse, Option}
use Rattle.std.specs.List.{AllByRecursion}
use Rattle.std.specs.Option.{option_to_list}
use Rattle.s4_types.specs.declared.limits.TheConstants.{FEWEST_FRAMES}
use Rattle.codec.specs.Summary.{SummaryFields, SpellsSummary}
use Rattle.segment_word.specs.Frames.{Free, Open, Draining, Frame, code_of}
use Rattle.segment_word.specs.Layout.{frame_at, block_bytes}
use Rattle.segment_table.specs.Slots.{is_held}
use Rattle.segment_table.specs.declared.slots.Slot.{Slot}
use Rattle.segment_table.specs.Table.{Table, slots_at}
use Rattle.segment_table.specs.Room.{is_filling, can_open, numbers}

-- n blocks, from block b on
unfoldable pub blocks_from : List ℕ → ℕ → ℕ → List (List ℕ)
blocks_from contents b zero = []
blocks_from contents b (suc n) = block_bytes contents b ∷ blocks_from contents (b + 1) n

-- the payload blocks, block 1 first
abbrev pub payload_of : List ℕ → List (List ℕ)
payload_of contents = blocks_from contents 1 15

-- the summary of frame f
abbrev pub summary_of : ℕ → Frame → List Slot → SummaryFields
summary_of f k slots = record { frame = f; generation = k.generation; roles = map (λ slot. slot.role) slots }

-- block 0 encodes the summary of frame f over its payload, of which the unused blocks are zeros
abbrev pub IsSummed : ℕ → Frame → List Slot → Type 0
IsSummed f k slots = SpellsSummary (payload_of k.contents) (block_bytes k.contents 0) (summary_of f k slots)

-- a used block is some object's
abbrev pub IsOwned : Slot → Type 0
IsOwned slot = 1 ≤ slot.role.object

abbrev pub IsLetGo : Slot → Type 0
IsLetGo slot = is_held slot ≡ false

-- each of the blocks 1 to n has 512 bytes
abbrev pub AreWhole : List ℕ → ℕ → Type 0
AreWhole contents n = (b : ℕ) → 1 ≤ b → b ≤ n → length (block_bytes contents b) ≡ 512

-- the used blocks of frame f fit what the frame is for, and its generation has 32 bits
pub record IsFit (f : ℕ) (k : Frame) (slots : List Slot) : Type 0 where
  pub lives : (1 ≤ k.generation) × (k.generation < 2 ^ 32)
  pub few : length slots ≤ 15
  pub owned : AllByRecursion IsOwned slots
  pub whole : AreWhole k.contents (length slots)
  pub free : k.phase ≡ Free → slots ≡ []
  pub summed : 2 ≤ code_of k.phase → IsSummed f k slots
  pub draining : k.phase ≡ Draining → AllByRecursion IsLetGo slots

-- What holds of a table between calls, but for how many blocks of the open frame are used: which frames can be opened,
-- the lowest number last, and which one is open.
pub record IsSoundTable (t : Table) (free : List ℕ) (current : Option ℕ) : Type 0 where
  pub least : FEWEST_FRAMES ≤ length t.seat.frames
  pub most : length t.seat.frames ≤ 1024
  pub counted : length t.slots ≡ length t.seat.frames
  pub vacant : free ≡ reverse (numbers can_open 0 t.seat.frames)
  pub filling : option_to_list current ≡ numbers is_filling 0 t.seat.frames
  pub fit : (f : ℕ) → f < length t.seat.frames → IsFit f (frame_at t.seat.frames f) (slots_at t.slots f)

-- the open frame has 1 to 14 used blocks
abbrev pub IsPartFilled : Table → Type 0
IsPartFilled t = (f : ℕ) → f < length t.seat.frames → (frame_at t.seat.frames f).phase ≡ Open → (1 ≤ length (slots_at t.slots f)) × (length (slots_at t.slots f) < 15)
