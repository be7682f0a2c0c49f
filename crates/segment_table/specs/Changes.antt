-- What the calls change in a table.
use Rattle.std.specs.Prelude.{◌≡◌, ◌≢◌, ℕ, ◌+◌, ◌^◌, ◌<◌, ◌≤◌, List, [], ◌∷◌, ◌++◌, length, slice_set, None, Result, IfErr, OnOk, OnErr, MatchResult}
use Rattle.std.specs.List.{AllByRecursion, flat_map}
use Rattle.s4_types.specs.Pointer.{Place}
use Rattle.s4_types.specs.declared.refusals.Refusal.{Refusal}
use Rattle.s4_types.specs.declared.refusals.Refusal.TheVariants.{InUse}
use Rattle.codec.specs.Summary.{IsBlank}
use Rattle.codec.specs.declared.summaries.BlockRole.{BlockRole}
use Rattle.segment_word.specs.Frames.{Open, Sealed, Draining}
use Rattle.segment_word.specs.Layout.{frame_at, block_bytes}
use Rattle.segment_word.specs.Handles.{Drive, HasMissed, with_changed, with_released}
use Rattle.segment_table.specs.declared.slots.Slot.{Slot}
use Rattle.segment_table.specs.Table.{Table, slots_at, held_at}
use Rattle.segment_table.specs.Room.{is_filling, can_open, numbers, rest_of, whole_of, places_ahead, log_of}
use Rattle.segment_table.specs.Sealing.{IsSummed}

-- frame f is the only open one
abbrev pub IsFilling : ℕ → Table → Type 0
IsFilling f t = numbers is_filling 0 t.seat.frames ≡ f ∷ []

-- no frame is open
abbrev pub NoneIsFilling : Table → Type 0
NoneIsFilling t = numbers is_filling 0 t.seat.frames ≡ []

-- no other frame than f has changed
abbrev pub IsAlone : ℕ → Drive → Drive → Type 0
IsAlone f old new = new ≡ with_changed old f (frame_at new.frames f)

-- frame f of a drive has the same number of lives after it
abbrev pub KeepsGeneration : ℕ → Drive → Drive → Type 0
KeepsGeneration f old new = (frame_at new.frames f).generation ≡ (frame_at old.frames f).generation

-- block b of frame f is as it was
abbrev pub KeepsBlock : ℕ → ℕ → Drive → Drive → Type 0
KeepsBlock f b old new = block_bytes (frame_at new.frames f).contents b ≡ block_bytes (frame_at old.frames f).contents b

-- Blocks `first` to before `end` of frame f are zeros, and all else of it is as it was.
pub record IsCleared (f first end : ℕ) (old new : Drive) : Type 0 where
  pub alone : IsAlone f old new
  pub phase : (frame_at new.frames f).phase ≡ (frame_at old.frames f).phase
  pub generation : KeepsGeneration f old new
  pub before : (b : ℕ) → b < first → KeepsBlock f b old new
  pub after : (b : ℕ) → end ≤ b → b < 16 → KeepsBlock f b old new
  pub blank : (b : ℕ) → first ≤ b → b < end → IsBlank (block_bytes (frame_at new.frames f).contents b)

-- Frame f, of which these blocks are used, was sealed: they are as they were, the other payload blocks are zeros, and
-- block 0 is the summary.
pub record IsSealed (f : ℕ) (slots : List Slot) (old new : Drive) : Type 0 where
  pub alone : IsAlone f old new
  pub phase : (frame_at new.frames f).phase ≡ Sealed
  pub generation : KeepsGeneration f old new
  pub used : (b : ℕ) → 1 ≤ b → b ≤ length slots → KeepsBlock f b old new
  pub summed : IsSummed f (frame_at new.frames f) slots

-- frame f of a table was sealed, and nothing else has changed
abbrev pub IsSealedIn : ℕ → Table → Table → Type 0
IsSealedIn f old new = IsSealed f (slots_at old.slots f) old.seat new.seat × (new.slots ≡ old.slots)

-- Frame f is the open one and takes the next append: it was so before, or it was free and has been opened. No block has
-- changed.
pub record IsReadyFrame (f : ℕ) (old new : Table) : Type 0 where
  pub alone : IsAlone f old.seat new.seat
  pub generation : KeepsGeneration f old.seat new.seat
  pub contents : (frame_at new.seat.frames f).contents ≡ (frame_at old.seat.frames f).contents
  pub slots : new.slots ≡ old.slots
  pub within : f < length new.slots
  pub filling : IsFilling f new
  pub room : length (slots_at new.slots f) < 15

-- the used blocks of each frame, with one more of frame f
abbrev pub with_slot : List (List Slot) → ℕ → Slot → List (List Slot)
with_slot slots f slot = slice_set slots f (slots_at slots f ++ slot ∷ [])

-- a block was put into the lowest unused block of frame f
pub record IsPut (f : ℕ) (slot : Slot) (block : List ℕ) (old new : Table) : Type 0 where
  pub alone : IsAlone f old.seat new.seat
  pub phase : (frame_at new.seat.frames f).phase ≡ (frame_at old.seat.frames f).phase
  pub generation : KeepsGeneration f old.seat new.seat
  pub bytes : block_bytes (frame_at new.seat.frames f).contents (length (slots_at old.slots f) + 1) ≡ block
  pub others : (b : ℕ) → b < 16 → b ≢ length (slots_at old.slots f) + 1 → KeepsBlock f b old.seat new.seat
  pub slots : new.slots ≡ with_slot old.slots f slot

-- A block was appended at place p, which was the lowest unused block of its frame. The frame is open, or sealed where
-- this was its last block.
pub record IsAppended (p : Place) (role : BlockRole) (block : List ℕ) (old new : Table) : Type 0 where
  pub alone : IsAlone p.frame old.seat new.seat
  pub generation : KeepsGeneration p.frame old.seat new.seat
  pub place : p.block ≡ length (slots_at old.slots p.frame) + 1
  pub bytes : block_bytes (frame_at new.seat.frames p.frame).contents p.block ≡ block
  pub others : (b : ℕ) → 1 ≤ b → b < p.block → KeepsBlock p.frame b old.seat new.seat
  pub slots : new.slots ≡ with_slot old.slots p.frame (record { role = role; named = 1 })
  pub filling : p.block < 15 → (frame_at new.seat.frames p.frame).phase ≡ Open
  pub sealed : p.block ≡ 15 → (frame_at new.seat.frames p.frame).phase ≡ Sealed
  pub summed : p.block ≡ 15 → IsSummed p.frame (frame_at new.seat.frames p.frame) (slots_at new.slots p.frame)

-- none of the blocks of frame f is held
abbrev pub NoneHeld : ℕ → Table → Type 0
NoneHeld f t = (p : Place) → p.frame ≡ f → held_at t p ≡ None

-- frame f is sealed, and none of its blocks is held
abbrev pub CanBeEmptied : ℕ → Table → Type 0
CanBeEmptied f t = ((frame_at t.seat.frames f).phase ≡ Sealed) × NoneHeld f t

-- frame f was sealed and none of its blocks was held: it is being emptied, and nothing else has changed
pub record IsMarked (f : ℕ) (old new : Table) : Type 0 where
  pub sealed : (frame_at old.seat.frames f).phase ≡ Sealed
  pub unheld : NoneHeld f old
  pub seat : new.seat ≡ with_changed old.seat f (record (frame_at old.seat.frames f) { phase = Draining })
  pub slots : new.slots ≡ old.slots

-- frame f was being emptied and had no reader: it is free at its next generation, and none of its blocks is used
pub record IsReleased (f : ℕ) (old new : Table) : Type 0 where
  pub inside : f < length old.seat.frames
  pub draining : (frame_at old.seat.frames f).phase ≡ Draining
  pub goes_on : (frame_at old.seat.frames f).generation + 1 < 2 ^ 32
  pub seat : new.seat ≡ with_released old.seat f
  pub slots : new.slots ≡ slice_set old.slots f []

-- The 15 blocks of frame f, at its new generation, are among the places ahead: after the unused blocks of the open frame
-- and the free frames of lower numbers, before the free frames of higher numbers. The others are as they were.
pub record IsAheadAgain (f : ℕ) (old new : Table) : Type 0 where
  pub lower : List ℕ
  pub higher : List ℕ
  pub vacant : numbers can_open 0 old.seat.frames ≡ lower ++ higher
  pub below : AllByRecursion (λ n. n < f) lower
  pub above : AllByRecursion (λ n. f < n) higher
  pub ahead : places_ahead new ≡ flat_map (rest_of old) (numbers is_filling 0 old.seat.frames) ++ (flat_map (whole_of old) lower ++ (whole_of new f ++ flat_map (whole_of old) higher))

-- ---- what a call on the frames of a table leaves, and when it is refused

-- No frame is open any longer: the open one was sealed, and its unused blocks are ahead no longer. Where none was open, nothing
-- has changed.
pub record SealsFrame (old new : Table) : Type 0 where
  pub closed : NoneIsFilling new
  pub idle : NoneIsFilling old → new ≡ old
  pub sealed : (f : ℕ) → IsFilling f old → IsSealedIn f old new
  pub held : (log_of new).held ≡ (log_of old).held
  pub named : (log_of new).named ≡ (log_of old).named
  pub ahead : (f : ℕ) → IsFilling f old → rest_of old f ++ places_ahead new ≡ places_ahead old
  pub spent : (log_of new).spent ≡ (log_of old).spent

-- Frame f is being emptied from now on. InUse exactly where it isn't sealed or isn't there, or where one of its blocks is held,
-- and nothing has changed then.
pub record MarksFrame (f : ℕ) (old : Table) (done : Result (Unit {0}) Refusal) (new : Table) : Type 0 where
  pub marked : OnOk done (IsMarked f old new)
  pub answer : MatchResult done (λ _. CanBeEmptied f old) (λ e. (e ≡ InUse) × (CanBeEmptied f old → ⊥))
  pub log : log_of new ≡ log_of old
  pub refused : OnErr done (new ≡ old)

-- Frame f was being emptied and had no reader: it is free at its next generation and its 15 payload blocks are ahead again, or
-- it is retired, at the last generation. No fewer places than before were ever taken. InUse alone: where the frame isn't being
-- emptied or isn't there, and nothing has changed; or where its word counted a reader at the one exchange that was tried, which
-- is noted, and no frame or block has changed.
pub record ReleasesFrame (f : ℕ) (old : Table) (done : Result (Unit {0}) Refusal) (new : Table) : Type 0 where
  pub released : OnOk done (IsReleased f old new)
  pub held : (log_of new).held ≡ (log_of old).held
  pub named : (log_of new).named ≡ (log_of old).named
  pub spent : OnOk done ((log_of old).spent ≤ (log_of new).spent)
  pub again : OnOk done ((frame_at old.seat.frames f).generation + 2 < 2 ^ 32 → IsAheadAgain f old new)
  pub retired : OnOk done ((frame_at old.seat.frames f).generation + 2 ≡ 2 ^ 32 → places_ahead new ≡ places_ahead old)
  pub missed : OnErr done ((frame_at old.seat.frames f).phase ≡ Draining → HasMissed f old.seat new.seat)
  pub idle : OnErr done ((frame_at old.seat.frames f).phase ≢ Draining → new ≡ old)
  pub refused : OnErr done ((new.seat.frames ≡ old.seat.frames) × (new.slots ≡ old.slots))
  pub log : OnErr done (log_of new ≡ log_of old)
  pub table : new.seat.table ≡ old.seat.table
  pub refusal : IfErr done (λ e. e ≡ InUse)
