-- What a turn of the cleaner's rounds comes to.
use Rattle.std.specs.Prelude.{◌≡◌, ◌≢◌, ◌⊎◌, ℕ, zero, suc, ◌<◌, ◌≤◌, Bool, true, false, ◌||◌, None, Result, MatchResult, length}
use Rattle.s4_types.specs.declared.limits.TheConstants.{MOVE_BLOCKS}
use Rattle.s4_types.specs.declared.refusals.Refusal.{Refusal}
use Rattle.s4_types.specs.declared.refusals.Refusal.TheVariants.{NoMemory, NoRoom}
use Rattle.s4_model.specs.Audit.{audit_of}
use Rattle.segment_word.specs.Frames.{Draining}
use Rattle.segment_word.specs.Layout.{frame_at}
use Rattle.segment_word.specs.Handles.{Drive, HasMissed, with_released}
use Rattle.segment_table.specs.Table.{Table}
use Rattle.object_map.specs.Rows.{row_of}
use Rattle.object_map.specs.Objects.{IsNextAbove}
use Rattle.version_store.specs.Costs.{room}
use Rattle.version_store.specs.Upkeep.{KeepsObjects}
use Rattle.drive.specs.Fields.{DriveFields, state_in, store_of}
use Rattle.history_cleaner.specs.declared.rounds.Turn.{Turn}
use Rattle.history_cleaner.specs.declared.rounds.Turn.TheVariants.{Cleaned, PassedOver, Ended}
use Rattle.history_cleaner.specs.Cleaning.{Cleans, HasNoRoom}
use Rattle.history_cleaner.specs.Emptying.{MarkedBelow}
use Rattle.history_cleaner.specs.Passing.{has_other_row, has_lost_row, IsCleaned}

-- The release of frame f was tried if it was being emptied: it is free at its next generation, or the word that was found counted a
-- reader, and no frame has changed. Else nothing has.
pub record TriesFrame (f : ℕ) (old new : Drive) : Type 0 where
  pub tried : (frame_at old.frames f).phase ≡ Draining → (new ≡ with_released old f) ⊎ HasMissed f old new
  pub idle : (frame_at old.frames f).phase ≢ Draining → new ≡ old

-- The release of each frame below f was tried that was being emptied, one after the other from the highest on and of each once.
abbrev pub TriedBelow : ℕ → Drive → Drive → Type 0
TriedBelow zero old new = new ≡ old
TriedBelow (suc f) old new = (between : Drive) × TriesFrame f old between × TriedBelow f between new

-- All frames of a table were marked that could be, and then the release of each was tried that was being emptied.
pub record IsSwept (old new : Table) : Type 0 where
  pub between : Table
  pub marked : MarkedBelow (length old.seat.frames) old between
  pub tried : TriedBelow (length old.seat.frames) between.seat new.seat

-- Frames were emptied where an object was changed and less room was left than a move takes, and else nothing has changed.
pub record IsTidied (is_changed : Bool) (d later : DriveFields) : Type 0 where
  pub short : is_changed ≡ true → room (store_of d) < MOVE_BLOCKS → IsSwept d.store.table later.store.table
  pub ample : MOVE_BLOCKS ≤ room (store_of d) → later ≡ d
  pub idle : is_changed ≡ false → later ≡ d

-- whether an object's row has another stamp than before, or is gone
abbrev pub has_changed_row : DriveFields → DriveFields → ℕ → Bool
has_changed_row d later object = has_other_row d.store.rows later.store.rows object || has_lost_row d.store.rows later.store.rows object

-- An object was cleaned, and then frames were emptied where that has changed something and little room was left.
pub record IsVisited (d : DriveFields) (object : ℕ) (later : DriveFields) : Type 0 where
  pub between : DriveFields
  pub put : Cleans (store_of d) (state_in d) object (store_of between)
  pub cleaned : IsCleaned (store_of d) (store_of later) (state_in d) object
  pub tidied : IsTidied (has_changed_row d between object) between later
  pub objects : KeepsObjects (store_of between) (store_of later)

-- why an object isn't cleaned
abbrev pub IsPutOff : DriveFields → ℕ → Refusal → Type 0
IsPutOff d object refusal = (refusal ≡ NoMemory) ⊎ ((refusal ≡ NoRoom) × HasNoRoom (store_of d) (state_in d) object)

-- What the turn of one object comes to: it was visited, or it could not be cleaned, and nothing has changed.
abbrev pub Visits : DriveFields → ℕ → Result (Unit {0}) Refusal → DriveFields → Type 0
Visits d object done later = MatchResult done (λ _. IsVisited d object later) (λ refusal. (store_of later ≡ store_of d) × IsPutOff d object refusal)

-- the next object with a row was visited
pub record CleansNext (d : DriveFields) (passed object next : ℕ) (later : DriveFields) : Type 0 where
  pub above : IsNextAbove d.store.rows passed object
  pub comes_to : next ≡ object
  pub visited : IsVisited d object later

-- the next object with a row could not be cleaned, for this reason, and nothing has changed
pub record PassesOver (d : DriveFields) (passed object : ℕ) (refusal : Refusal) (next : ℕ) (later : DriveFields) : Type 0 where
  pub above : IsNextAbove d.store.rows passed object
  pub comes_to : next ≡ object
  pub same : store_of later ≡ store_of d
  pub why : IsPutOff d object refusal

-- No object with a row was left: all objects are as they were, frames were emptied, no row of the audit is kept below the floor, and
-- the next round begins.
pub record EndsRound (d : DriveFields) (passed next : ℕ) (later : DriveFields) : Type 0 where
  pub none : (q : ℕ) → passed < q → row_of d.store.rows q ≡ None
  pub begins : next ≡ 0
  pub objects : KeepsObjects (store_of d) (store_of later)
  pub swept : IsSwept d.store.table later.store.table
  pub audit : later.audit ≡ audit_of (state_in d)

-- what a turn comes to, by what it answers
abbrev pub Turns : DriveFields → ℕ → Turn → ℕ → DriveFields → Type 0
Turns d passed (Cleaned object) next later = CleansNext d passed object next later
Turns d passed (PassedOver object refusal) next later = PassesOver d passed object refusal next later
Turns d passed Ended next later = EndsRound d passed next later
