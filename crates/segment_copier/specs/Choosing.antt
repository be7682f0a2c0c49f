-- Which object the copier moves next, and out of which frame.
use Rattle.std.specs.Prelude.{◌≡◌, ◌⊎◌, ℕ, ◌+◌, ◌^◌, ◌<◌, ◌≤◌, [], is_some, count_by}
use Rattle.s4_types.specs.declared.limits.TheConstants.{MOVE_BLOCKS}
use Rattle.segment_word.specs.Frames.{Sealed}
use Rattle.segment_word.specs.Layout.{frame_at}
use Rattle.segment_table.specs.Table.{Table, held_at}
use Rattle.segment_table.specs.Room.{whole_of, pointers_in}
use Rattle.version_store.specs.Costs.{room}
use Rattle.drive.specs.Fields.{DriveFields, store_of}
use Rattle.segment_copier.specs.declared.choices.TheConstants.{MOST_HELD}

-- there is room for any move
abbrev pub HasRoom : DriveFields → Type 0
HasRoom d = MOVE_BLOCKS ≤ room (store_of d)

-- how many blocks of frame f are held
abbrev pub held_count : Table → ℕ → ℕ
held_count t f = count_by (λ p. is_some (held_at t p)) (whole_of t f)

-- a generation that pointers have; at the next one, 2^32 - 1, a frame is used no more
abbrev pub IsLife : ℕ → Type 0
IsLife g = (1 ≤ g) × (g + 1 < 2 ^ 32)

-- a frame that a move can be made out of: it is sealed, and 1 to 7 of its blocks are held
pub record IsSparse (t : Table) (f : ℕ) : Type 0 where
  pub sealed : (frame_at t.seat.frames f).phase ≡ Sealed
  pub life : IsLife (frame_at t.seat.frames f).generation
  pub some : 1 ≤ held_count t f
  pub few : held_count t f ≤ MOST_HELD

abbrev pub NoneIsSparse : Table → Type 0
NoneIsSparse t = (f : ℕ) → IsSparse t f → ⊥

-- frame f is g, or it comes first: fewer of its blocks are held, or as many and its number is the lower
abbrev pub GoesBefore : Table → ℕ → ℕ → Type 0
GoesBefore t f g = (held_count t f < held_count t g) ⊎ ((held_count t f ≡ held_count t g) × (f ≤ g))

-- of all frames that a move can be made out of the first
pub record IsFirstFrame (t : Table) (f : ℕ) : Type 0 where
  pub sparse : IsSparse t f
  pub first : (g : ℕ) → IsSparse t g → GoesBefore t f g

-- an object holds a block in a sealed frame
abbrev pub HoldsIn : Table → ℕ → ℕ → Type 0
HoldsIn t f o = pointers_in t o f ≡ [] → ⊥

-- of all objects that hold a block in a sealed frame the least
pub record IsLowestObject (t : Table) (f o : ℕ) : Type 0 where
  pub holds : HoldsIn t f o
  pub lowest : (q : ℕ) → HoldsIn t f q → o ≤ q
