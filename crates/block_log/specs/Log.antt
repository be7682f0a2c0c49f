-- What a table of blocks holds, and how appending and dropping change it.
use Rattle.std.specs.Prelude.{◌≡◌, ℕ, ◌+◌, ◌-◌, nat_le, nat_lt, Bool, true, false, ◌==◌, ◌&&◌, if◌then◌else◌, List, [], ◌∷◌, Option, Some, None}
use Rattle.s4_types.specs.Pointer.{Place}
use Rattle.block_log.specs.declared.kinds.BlockKind.{BlockKind}
use Rattle.block_log.specs.declared.kinds.BlockKind.TheVariants.{Journal, Checkpoint, Data, Pointers}

-- a block: what it is for, whose it is, and its 512 bytes
pub record Stored : Type 0 where
  pub kind : BlockKind
  pub object : ℕ
  pub bytes : List ℕ

-- The block that each held pointer refers to, the places that the next appends take, in order, how many places were ever
-- taken, and how many times the data block at a place is named.
pub record Log : Type 0 where
  pub held : Place → Option Stored
  pub ahead : List Place
  pub spent : ℕ
  pub named : Place → ℕ

-- the two places are one
abbrev pub same_place : Place → Place → Bool
same_place p q = p.frame == q.frame && (p.block == q.block && p.generation == q.generation)

-- a block put at a place
abbrev pub with_held : (Place → Option Stored) → Place → Stored → Place → Option Stored
with_held held p block = λ q. if same_place p q then Some block else held q

-- nothing at a place
abbrev pub without : (Place → Option Stored) → Place → Place → Option Stored
without held p = λ q. if same_place p q then None else held q

-- the data block at a place is named once more
abbrev pub with_more : (Place → ℕ) → Place → Place → ℕ
with_more named p = λ q. if same_place p q then 1 + named q else named q

-- the data block at a place is named once less
abbrev pub with_fewer : (Place → ℕ) → Place → Place → ℕ
with_fewer named p = λ q. if same_place p q then named q - 1 else named q

-- how often data blocks are named once a block was put at a place: one of data is named once more
abbrev pub named_with : BlockKind → (Place → ℕ) → Place → Place → ℕ
named_with Journal named p = named
named_with Checkpoint named p = named
named_with Data named p = with_more named p
named_with Pointers named p = named

-- what a block's append makes of a log where these places are ahead, and the place that it takes: the first of them
abbrev pub appended_at : Log → Stored → List Place → Option (Place × Log)
appended_at log block [] = None
appended_at log block (p ∷ ahead) = Some (p, record { held = with_held log.held p block; ahead = ahead; spent = 1 + log.spent; named = named_with block.kind log.named p })

-- what a block's append makes of a log, and the place that it takes
abbrev pub appended : Log → Stored → Option (Place × Log)
appended log block = appended_at log block log.ahead

-- a log where the data block at a place is named once more
abbrev pub held_more : Log → Place → Log
held_more log p = record log { named = with_more log.named p }

-- A log where the data block at a place is named once less: one that was named once is held no longer.
abbrev pub held_less : Log → Place → Log
held_less log p = record log { held = if nat_le (log.named p) 1 then without log.held p else log.held; named = with_fewer log.named p }

abbrev pub same_kind : BlockKind → BlockKind → Bool
same_kind Journal Journal = true
same_kind Journal _ = false
same_kind Checkpoint Checkpoint = true
same_kind Checkpoint _ = false
same_kind Data Data = true
same_kind Data _ = false
same_kind Pointers Pointers = true
same_kind Pointers _ = false

-- a block's bytes, where it is of this kind and object
abbrev pub seen_as : BlockKind → ℕ → Option Stored → Option (List ℕ)
seen_as kind o None = None
seen_as kind o (Some block) = if same_kind kind block.kind && block.object == o then Some block.bytes else None

-- the bytes of an object's blocks of one kind, by their places
abbrev pub of_kind : BlockKind → ℕ → (Place → Option Stored) → Place → Option (List ℕ)
of_kind kind o held = λ p. seen_as kind o (held p)

-- whether a block is there, and is of data
abbrev pub is_data : Option Stored → Bool
is_data None = false
is_data (Some block) = same_kind block.kind Data

-- what the drop of a block makes of a log: of a data block one name alone goes
abbrev pub dropped_by : Bool → Log → Place → Log
dropped_by true log p = held_less log p
dropped_by false log p = record log { held = without log.held p }

-- a log where the block at a place is named once less
abbrev pub dropped : Log → Place → Log
dropped log p = dropped_by (is_data (log.held p)) log p

-- the data blocks that are held are named, and nothing else is
abbrev pub NamesAreOfData : Log → Type 0
NamesAreOfData log = (p : Place) → nat_lt 0 (log.named p) ≡ is_data (log.held p)
