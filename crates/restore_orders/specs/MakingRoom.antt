-- How room is made in full journals.
use Rattle.std.specs.Prelude.{◌≡◌, ℕ, ◌<◌, ◌≤◌, ◌==◌, Bool, true, List, [], ◌∷◌, length, Option, None, Some}
use Rattle.std.specs.List.{list_any}
use Rattle.std.specs.Io.KnownBytes.{Appends}
use Rattle.s4_types.specs.declared.spans.Span.{Span}
use Rattle.version_store.specs.Versions.{entries_of_object}
use Rattle.drive.specs.Fields.{DriveFields, state_in, store_of}
use Rattle.history_cleaner.specs.Cleaning.{Cleans, IsClean}
use Rattle.history_restore.specs.declared.aims.Aim.{Aim}
use Rattle.history_restore.specs.Asking.{IsMovedBy}
use Rattle.history_restore.specs.Keeping.{IsDatedFrom}
use Rattle.history_restore.specs.Room.{HidesBetween, IsOfNewest, LeavesObjects, begun_after}
use Rattle.restore_orders.specs.Lines.{hidden_text}
use Rattle.restore_orders.specs.Restoring.{RestoresDrive}
use Rattle.restore_search.specs.declared.rooms.Room.{Room}

-- something is restored under a number
abbrev pub IsAimedAt : List Aim → ℕ → Type 0
IsAimedAt aims o = list_any (λ (a : Aim). a.target == o) aims ≡ true

-- An object was cleaned.
pub record IsCleaned (d : DriveFields) (o : ℕ) (later : DriveFields) : Type 0 where
  pub cleans : Cleans (store_of d) (state_in d) o (store_of later)
  pub state : state_in later ≡ state_in d

-- The moments of that many of an object's newest versions after a moment, but the present one, are hidden and no others, and its journal is
-- cleaned of them. All objects stay what they are and were. That is one change, asked for at a moment.
pub record HidesNewest (d : DriveFields) (now at : ℕ) (room : Room) (span : Span) (later : DriveFields) : Type 0 where
  pub some : 0 < room.count
  pub newest : IsOfNewest (begun_after at (entries_of_object (store_of d) room.object)) room.count room.object span
  pub hides : HidesBetween (state_in d) room.object span.first span.last (state_in later)
  pub leaves : LeavesObjects (state_in d) room.object (state_in later)
  pub moved : IsMovedBy (state_in d) now 1 (state_in later)
  pub dated : IsDatedFrom now (state_in d) (state_in later)
  pub clean : IsClean (store_of later) (state_in later) room.object

-- An object that was cleaned has this room: where none of its versions is to be hidden it is as it was.
abbrev pub HasRoom : DriveFields → ℕ → ℕ → Room → Option Span → DriveFields → Type 0
HasRoom d now at room None later = (room.count ≡ 0) × (later ≡ d)
HasRoom d now at room (Some span) later = HidesNewest d now at room span later

-- Room is made in an object's journal: it is cleaned, and that many of its newest versions are hidden.
pub record MakesRoom (d : DriveFields) (now at : ℕ) (room : Room) (hidden : Option Span) (later : DriveFields) : Type 0 where
  pub cleaned : DriveFields
  pub cleans : IsCleaned d room.object cleaned
  pub has : HasRoom cleaned now at room hidden later

-- An object was cleaned, and no more of its versions than that begin after a moment, the present one among them: nothing is hidden.
pub record HasFewer (d : DriveFields) (at : ℕ) (room : Room) (later : DriveFields) : Type 0 where
  pub some : 0 < room.count
  pub cleans : IsCleaned d room.object later
  pub few : length (begun_after at (entries_of_object (store_of later) room.object)) ≤ room.count

-- Room is made for an object that is restored, and the output ends with the line of what is hidden.
pub record Hides (d : DriveFields) (now at : ℕ) (json : Bool) (aims : List Aim) (room : Room) (later : DriveFields) (output output' : Option (List ℕ)) : Type 0 where
  pub among : IsAimedAt aims room.object
  pub hidden : Option Span
  pub made : MakesRoom d now at room hidden later
  pub wrote : Appends output output' (hidden_text json hidden)

-- It is for each of these, one after the other.
abbrev pub HidesAll : DriveFields → ℕ → ℕ → Bool → List Aim → List Room → DriveFields → Option (List ℕ) → Option (List ℕ) → Type 0
HidesAll d now at json aims [] later output output' = (later ≡ d) × (output' ≡ output)
HidesAll d now at json aims (room ∷ full) later output output' = (middle : DriveFields) × (between : Option (List ℕ)) × Hides d now at json aims room middle output between × HidesAll middle now at json aims full later between output'

-- Room was made in journals, and then these objects were restored, and the output ends with the lines of that.
pub record RestoresWithRoom (d later : DriveFields) (now at : ℕ) (json : Bool) (aims : List Aim) (full : List Room) (output output' : Option (List ℕ)) : Type 0 where
  pub middle : DriveFields
  pub between : Option (List ℕ)
  pub hides : HidesAll d now at json aims full middle output between
  pub restores : RestoresDrive (state_in middle) (store_of middle) (state_in later) (store_of later) now at json aims between output'
