-- What `restore` does and prints.
use Rattle.std.specs.Prelude.{◌≡◌, ℕ, Bool, List, Option}
use Rattle.std.specs.List.{flat_map}
use Rattle.std.specs.Io.KnownBytes.{Appends}
use Rattle.s4_types.specs.declared.refusals.Refusal.{Refusal}
use Rattle.s4_types.specs.declared.refusals.Refusal.TheVariants.{ChainFull, Expired, Flushed, Future, NoSpace}
use Rattle.s4_model.specs.State.{State}
use Rattle.version_store.specs.Store.{StoreFields}
use Rattle.history_restore.specs.Keeping.{LeavesPast}
use Rattle.history_restore.specs.Whole.{IsCounted, LeavesRest, RestoresEach, RestoresInTurn}
use Rattle.history_restore.specs.declared.aims.Aim.{Aim}
use Rattle.history_restore.specs.declared.restoring.Restored.{Restored}
use Rattle.s4_images.specs.Failures.{HasNoMoments}
use Rattle.s4_images.specs.Moments.{TellsUnreadable}
use Rattle.s4_images.specs.declared.faults.Failure.{Failure}
use Rattle.s4_images.specs.declared.faults.Failure.TheVariants.{JournalFull, NoRoom}
use Rattle.restore_orders.specs.Lines.{restored_text}

-- A failure says why an object wasn't restored: its moment can't be read, its journal is full, or there is no room for its blocks; any
-- other has no moments.
abbrev pub SaysWhy : State → Aim → ℕ → Refusal → Failure → Type 0
SaysWhy s aim at Future failure = TellsUnreadable s aim.object at failure
SaysWhy s aim at Expired failure = TellsUnreadable s aim.object at failure
SaysWhy s aim at Flushed failure = TellsUnreadable s aim.object at failure
SaysWhy s aim at ChainFull failure = failure ≡ JournalFull aim.target
SaysWhy s aim at NoSpace failure = failure ≡ NoRoom aim.target
SaysWhy s aim at _ failure = HasNoMoments failure

-- These objects were restored, in their order, each by the plan that is taken of it; every other one is what it was, and the past stays. As many
-- numbers were given as objects were made anew, and each change has its moment by the one at which they are asked for.
pub record AreRestored (s : State) (store : StoreFields) (later : State) (after : StoreFields) (now at : ℕ) (aims : List Aim) (all : List Restored) : Type 0 where
  pub each : RestoresEach s later at aims all
  pub turn : RestoresInTurn s store now at all later after
  pub rest : LeavesRest s later aims
  pub past : LeavesPast s later
  pub counted : IsCounted s later now all

-- So it was, and the output ends with the lines of that.
pub record RestoresDrive (s : State) (store : StoreFields) (later : State) (after : StoreFields) (now at : ℕ) (json : Bool) (aims : List Aim) (output output' : Option (List ℕ)) : Type 0 where
  pub all : List Restored
  pub restored : AreRestored s store later after now at aims all
  pub wrote : Appends output output' (flat_map (restored_text json) all)
