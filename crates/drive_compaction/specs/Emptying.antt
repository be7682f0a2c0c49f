-- What the emptying of frames comes to.
use Rattle.std.specs.Prelude.{◌≡◌, ℕ, zero, suc, ◌+◌, Bool, true, false, List, Option, Some, None, Ok}
use Rattle.s4_types.specs.Pointer.{Place}
use Rattle.s4_types.specs.declared.limits.TheConstants.{PAYLOAD_BLOCKS}
use Rattle.s4_types.specs.declared.refusals.Refusal.{Refusal}
use Rattle.s4_types.specs.declared.refusals.Refusal.TheVariants.{NoRoom, InUse}
use Rattle.block_log.specs.Log.{Stored}
use Rattle.segment_word.specs.Layout.{frame_at}
use Rattle.segment_table.specs.Table.{held_at}
use Rattle.version_store.specs.Upkeep.{KeepsObjects}
use Rattle.drive.specs.Fields.{DriveFields, state_in, store_of}
use Rattle.drive.specs.Keeping.{KeepsVersions}
use Rattle.history_cleaner.specs.Emptying.{AllVacated, StopsAtReader}
use Rattle.segment_copier.specs.Gathering.{MovesNow, IsKeptBack}
use Rattle.drive_compaction.specs.Choosing.{CanBeFreed}

-- the history is as it was, and every version that can be read
pub record KeepsAll (d later : DriveFields) : Type 0 where
  pub ledger : later.ledger ≡ d.ledger
  pub needed : KeepsVersions (state_in d) (store_of d) (store_of later)

-- ---- the blocks of a frame

-- What is done about the block at a place, by this many moves: nothing where none is held there; else its object leaves the frame, with
-- all that it holds in it.
abbrev pub Leaves : DriveFields → Place → Option Stored → ℕ → DriveFields → Type 0
Leaves d p None moves later = (moves ≡ 0) × (later ≡ d)
Leaves d p (Some block) moves later = (moves ≡ 1) × MovesNow d p.frame block.object (Ok tt) later

-- so of the block that is held there
abbrev pub LeavesPlace : DriveFields → Place → ℕ → DriveFields → Type 0
LeavesPlace d p moves later = Leaves d p (held_at d.store.table p) moves later

-- block b of frame f at a generation
abbrev pub block_of : ℕ → ℕ → ℕ → Place
block_of f generation b = record { frame = f; block = b; generation = generation }

-- The first n payload blocks of frame f at a generation, one after the other, by this many moves in all.
abbrev pub LeavesBelow : DriveFields → ℕ → ℕ → ℕ → ℕ → DriveFields → Type 0
LeavesBelow d f generation zero moves later = (moves ≡ 0) × (later ≡ d)
LeavesBelow d f generation (suc n) moves later =
    (between : DriveFields) × (k : ℕ) × (m : ℕ) × LeavesBelow d f generation n k between × LeavesPlace between (block_of f generation (suc n)) m later × (moves ≡ k + m)

-- The object of the block at a place stays in its frame, for this reason, and nothing has changed.
pub record Stays (d : DriveFields) (p : Place) (e : Refusal) (later : DriveFields) : Type 0 where
  pub block : Stored
  pub held : held_at d.store.table p ≡ Some block
  pub same : store_of later ≡ store_of d
  pub why : IsKeptBack d p.frame block.object e

-- The emptying of a frame stopped at one of its blocks.
pub record StopsAt (d : DriveFields) (f generation moves : ℕ) (e : Refusal) (later : DriveFields) : Type 0 where
  pub before : ℕ
  pub between : DriveFields
  pub left : LeavesBelow d f generation before moves between
  pub stays : Stays between (block_of f generation (before + 1)) e later

-- all blocks of a frame, or up to the one at which it stopped
abbrev pub Empties : DriveFields → ℕ → ℕ → ℕ → Option Refusal → DriveFields → Type 0
Empties d f generation moves None later = LeavesBelow d f generation PAYLOAD_BLOCKS moves later
Empties d f generation moves (Some e) later = StopsAt d f generation moves e later

-- ---- frame after frame

-- A frame was emptied, or up to the block at which it stopped, and then each frame that holds nothing was freed.
pub record Frees (d : DriveFields) (f moves : ℕ) (stopped : Option Refusal) (later : DriveFields) : Type 0 where
  pub between : DriveFields
  pub empties : Empties d f (frame_at d.store.table.seat.frames f).generation moves stopped between
  pub vacated : AllVacated later.store.table
  pub objects : KeepsObjects (store_of between) (store_of later)

-- This number of frames was emptied and freed, each of which could be freed at a gain by these counts, by this number of moves in all.
unfoldable pub FreesInTurn : List (ℕ × ℕ) → DriveFields → ℕ → ℕ → DriveFields → Type 0
FreesInTurn counts d zero moves later = (moves ≡ 0) × (later ≡ d)
FreesInTurn counts d (suc n) moves later =
    (between : DriveFields) × (f : ℕ) × (k : ℕ) × (m : ℕ) × FreesInTurn counts d n k between × CanBeFreed counts between f × Frees between f m None later × (moves ≡ k + m)

-- They were, and then the emptying of one more stopped, since a move found too little room.
pub record RunsOut (counts : List (ℕ × ℕ)) (d : DriveFields) (frames moves : ℕ) (later : DriveFields) : Type 0 where
  pub between : DriveFields
  pub before : ℕ
  pub freed : FreesInTurn counts d frames before between
  pub frame : ℕ
  pub can : CanBeFreed counts between frame
  pub more : ℕ
  pub stopped : Frees between frame more (Some NoRoom) later
  pub sum : moves ≡ before + more

-- What frame after frame comes to, by whether it ran out of room.
abbrev pub Sweeps : List (ℕ × ℕ) → DriveFields → ℕ → ℕ → Bool → DriveFields → Type 0
Sweeps counts d frames moves false later = FreesInTurn counts d frames moves later
Sweeps counts d frames moves true later = RunsOut counts d frames moves later

-- A release found a reader: from the drive `since`, of the same history and versions, the frames were marked and released, down to the
-- first that had one.
pub record FindsReader (d later : DriveFields) (e : Refusal) : Type 0 where
  pub refusal : e ≡ InUse
  pub since : DriveFields
  pub keeps : KeepsAll d since
  pub objects : KeepsObjects (store_of since) (store_of later)
  pub reader : StopsAtReader since.store.table later.store.table
