-- The image of a new drive.
use Rattle.std.specs.Prelude.{◌≡◌, ℕ, List, Option, None}
use Rattle.s4_model.specs.State.{new_history}
use Rattle.object_map.specs.Rows.{row_of}
use Rattle.segment_table.specs.Room.{log_of, new_places}
use Rattle.segment_table.specs.Table.{Table}
use Rattle.version_store.specs.Store.{StoreOf, fields_of, IsStore}
use Rattle.drive.specs.Fields.{DriveFields, history_of}
use Rattle.verifier.specs.Saved.{SpellsSaved}
use Rattle.image_commands.specs.Files.{AreKnown}

-- An empty store over a table of this many frames: nothing is held, no object has a row, and nothing was ever changed.
pub record IsEmptyStore (frames : ℕ) (store : StoreOf Table) : Type 0 where
  pub log : log_of store.table ≡ record { held = λ p. None; ahead = new_places frames; spent = 0; named = λ p. 0 }
  pub empty : (o : ℕ) → row_of store.rows o ≡ None
  pub latest : store.latest ≡ 0
  pub stands : IsStore (fields_of log_of store)

-- bytes that a new drive of this many frames with this window is saved as
pub record SpellsNew (frames window : ℕ) (bytes : List ℕ) : Type 0 where
  pub drive : DriveFields
  pub history : history_of drive ≡ new_history window
  pub store : IsEmptyStore frames drive.store
  pub saved : SpellsSaved drive bytes

-- what is known of a file is the image of a new drive
pub record HasNew (frames window : ℕ) (known : Option (List ℕ)) : Type 0 where
  pub bytes : List ℕ
  pub spelled : SpellsNew frames window bytes
  pub kept : AreKnown known bytes
