-- When an object's checkpoint has to be written, when that is refused, and what a store is then.
use Rattle.std.specs.Prelude.{◌≡◌, ℕ, ◌+◌, ◌&&◌, Bool, nat_lt, if◌then◌else◌, Option, Some, None, IfSome, MatchBool}
use Rattle.s4_types.specs.Pointer.{Place}
use Rattle.s4_types.specs.declared.refusals.Refusal.{Refusal}
use Rattle.s4_types.specs.declared.refusals.Refusal.TheVariants.{NoObject, NoSpace}
use Rattle.block_log.specs.Log.{Stored}
use Rattle.block_log.specs.Taken.{TakesPlaces}
use Rattle.undo_redo.specs.Runs.{last_moment}
use Rattle.checkpoint.specs.Held.{checkpoint_held, checkpoint_places, checkpoint_blocks, OnlyCheckpointChanged}
use Rattle.object_map.specs.declared.map.Row.{Row}
use Rattle.object_map.specs.Rows.{row_of, with_row}
use Rattle.object_map.specs.Sides.{sides_after}
use Rattle.time_read.specs.Rows.{entries_of, inode_of}
use Rattle.row_changes.specs.Moved.{IsMoved, places_gone}
use Rattle.version_store.specs.Store.{StoreFields}
use Rattle.version_store.specs.Costs.{room}

-- the moment of an object's last journal entry, and 0 where it has none
abbrev pub last_entry : (Place → Option Stored) → ℕ → Row → ℕ
last_entry held o row = last_moment 0 (entries_of held o row)

-- an object's checkpoint has to be written: it is older than the last entry
abbrev pub is_behind : (Place → Option Stored) → ℕ → Row → Bool
is_behind held o row = nat_lt row.checkpoint_moment (last_entry held o row)

-- Why a checkpoint is refused where there is so much room, if it is: the object has no row, or else the checkpoint has to be
-- written and there is less room than that of the inode which is current at a moment takes.
abbrev pub refusal_for : ℕ → ℕ → (Place → Option Stored) → ℕ → Option Row → Option Refusal
refusal_for space t held o None = Some NoObject
refusal_for space t held o (Some row) = if is_behind held o row && nat_lt space (checkpoint_blocks (inode_of held o row t)) then Some NoSpace else None

-- why an object's checkpoint is refused, if it is
abbrev pub checkpoint_refusal : StoreFields → ℕ → Option Refusal
checkpoint_refusal s o = refusal_for (room s) s.latest s.log.held o (row_of s.rows o)

-- The present inode of an object was written as its newest checkpoint, with the moment of its last entry. The one before is
-- the last of the older ones, and where that makes one too many, the first of them was dropped. The object's row names them
-- and was changed once more. All else is as it was, but for the places that it took.
pub record IsCheckpointed (s : StoreFields) (o : ℕ) (row : Row) (later : StoreFields) : Type 0 where
  pub place : Place
  pub put : (q : ℕ) → row_of later.rows q ≡ with_row (row_of s.rows) o (record row { checkpoint = Some place; checkpoint_moment = last_entry s.log.held o row; sides = sides_after row; stamp = row.stamp + 1 }) q
  pub written : checkpoint_held later.log.held o place ≡ Some (record { object = o; moment = last_entry s.log.held o row; inode = inode_of s.log.held o row s.latest })
  pub moved : IsMoved s.log.held (places_gone s.log.held o row) (checkpoint_places later.log.held o place) later.log.held
  pub others : OnlyCheckpointChanged o s.log.held later.log.held
  pub takes : TakesPlaces (checkpoint_blocks (inode_of s.log.held o row s.latest)) s.log later.log

-- What a checkpoint that isn't refused leaves: it is written where it has to be, and else nothing has changed.
abbrev pub Checkpoints : StoreFields → ℕ → StoreFields → Type 0
Checkpoints s o later = IfSome (row_of s.rows o) (λ row. MatchBool (is_behind s.log.held o row) (IsCheckpointed s o row later) (later ≡ s))
