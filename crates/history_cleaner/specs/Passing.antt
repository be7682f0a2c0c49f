-- What a pass over all objects leaves, what of it is counted, and where it stopped.
use Rattle.std.specs.Prelude.{◌≡◌, ◌⊎◌, ℕ, ◌<◌, ◌≤◌, ◌==◌, Bool, false, not, List, Option, Some, None, is_none, count_by}
use Rattle.std.specs.List.{range_with_len}
use Rattle.s4_types.specs.declared.refusals.Refusal.{Refusal}
use Rattle.s4_types.specs.declared.refusals.Refusal.TheVariants.{NoMemory, NoRoom, InUse}
use Rattle.object_map.specs.declared.map.Row.{Row}
use Rattle.object_map.specs.Rows.{row_of}
use Rattle.s4_model.specs.State.{State}
use Rattle.segment_table.specs.Rules.{HasFramesInOrder}
use Rattle.version_store.specs.Store.{StoreFields}
use Rattle.version_store.specs.Upkeep.{KeepsObjects}
use Rattle.drive.specs.Fields.{DriveFields, state_in, store_of}
use Rattle.drive.specs.Keeping.{KeepsVersions}
use Rattle.history_cleaner.specs.Cleaning.{IsClean, IsUnseen, IsUntouched, HasNoRoom}
use Rattle.history_cleaner.specs.Emptying.{StopsAtReader}
use Rattle.history_cleaner.specs.Reaching.{HoldsWhatIsReached}

-- a row that is has another stamp than before
abbrev pub is_other : Option Row → Option Row → Bool
is_other None later = false
is_other (Some row) None = false
is_other (Some row) (Some next) = not (row.stamp == next.stamp)

-- a row is gone
abbrev pub is_gone : Option Row → Option Row → Bool
is_gone None later = false
is_gone (Some row) later = is_none later

-- whether an object's row has another stamp than before
abbrev pub has_other_row : List (ℕ × Row) → List (ℕ × Row) → ℕ → Bool
has_other_row rows later o = is_other (row_of rows o) (row_of later o)

-- whether an object's row is gone
abbrev pub has_lost_row : List (ℕ × Row) → List (ℕ × Row) → ℕ → Bool
has_lost_row rows later o = is_gone (row_of rows o) (row_of later o)

-- Of this many objects a test holds: from some number on of none, and below that of this many.
pub record IsCount (test : ℕ → Bool) (n : ℕ) : Type 0 where
  pub bound : ℕ
  pub past : (o : ℕ) → bound ≤ o → test o ≡ false
  pub count : n ≡ count_by test (range_with_len 0 bound)

-- An object was cleaned: it is clean, it has no row where nobody could see it, and of its data exactly those blocks are held
-- that are reached.
pub record IsCleaned (s later : StoreFields) (state : State) (o : ℕ) : Type 0 where
  pub clean : IsClean later state o
  pub gone : IsUnseen s state o → row_of later.rows o ≡ None
  pub held : HoldsWhatIsReached later state o

-- A pass stopped at an object, with this refusal. All objects below were cleaned, and from this one on each is as it was. It
-- was NoMemory, or NoRoom where there is no room to clean this object.
pub record StoppedAt (s later : StoreFields) (state : State) (e : Refusal) : Type 0 where
  pub object : ℕ
  pub below : (o : ℕ) → o < object → IsCleaned s later state o
  pub rest : (o : ℕ) → object ≤ o → IsUntouched s later o
  pub why : (e ≡ NoMemory) ⊎ ((e ≡ NoRoom) × HasNoRoom later state object)

-- A pass stopped with this refusal at a frame: first all objects were cleaned, which brought the drive to `since`; then its frames
-- were marked and released, down to the first that had a reader.
pub record StoppedAtReader (old new : DriveFields) (e : Refusal) : Type 0 where
  pub refusal : e ≡ InUse
  pub all : (o : ℕ) → IsCleaned (store_of old) (store_of new) (state_in old) o
  pub since : DriveFields
  pub cleaned : (o : ℕ) → IsCleaned (store_of old) (store_of since) (state_in old) o
  pub ledger : since.ledger ≡ old.ledger
  pub needed : KeepsVersions (state_in old) (store_of old) (store_of since)
  pub frames : HasFramesInOrder old.store.table.seat.table since.store.table
  pub objects : KeepsObjects (store_of since) (store_of new)
  pub reader : StopsAtReader since.store.table new.store.table
