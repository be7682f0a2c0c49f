-- Which changes a store takes, and what taking one appends.
use Rattle.std.specs.Prelude.{◌≡◌, ℕ, ◌+◌, ◌≤◌, ◌<◌, false, List, [], IsSome}
use Rattle.s4_types.specs.Pointer.{Place}
use Rattle.s4_types.specs.declared.changes.Change.{Change}
use Rattle.s4_types.specs.declared.changes.Change.TheVariants.{Create, Delete, Write, Truncate, SetAttr, SetWindow, Flush, FlushO}
use Rattle.s4_model.specs.Limits.{Fits}
use Rattle.s4_model.specs.Refusals.{is_absent}
use Rattle.block_log.specs.Log.{Log}
use Rattle.block_log.specs.Taken.{TakesPlaces}
use Rattle.codec.specs.declared.inodes.Inode.{Inode}
use Rattle.object_map.specs.declared.map.Row.{Row}
use Rattle.object_map.specs.Rows.{row_of, with_row}
use Rattle.journal_chain.specs.Chain.{OnlyJournalChanged}
use Rattle.inode.specs.Contents.{contents_of}
use Rattle.inode.specs.Changed.{blocks_written, blocks_cut}
use Rattle.inode.specs.Growth.{with_data, GrowsBy}
use Rattle.version_store.specs.Store.{StoreFields}
use Rattle.version_store.specs.Versions.{version_in}
use Rattle.version_store.specs.Costs.{subject_row, subject_inode, blocks_taken}
use Rattle.s4_model.specs.Effect.{object_of}

-- an object is there now
abbrev pub IsThere : StoreFields → ℕ → Type 0
IsThere s o = is_absent (version_in s o s.latest) ≡ false

-- An object's number is above that of each object that has a row.
abbrev pub IsAboveAll : StoreFields → ℕ → Type 0
IsAboveAll s o = (q : ℕ) → IsSome (row_of s.rows q) → q < o

-- A change can be made of a store's objects: a Create of an object above all that have rows, since numbers ascend and none is
-- given twice; or another change of one that is there.
-- A change that makes no version is none of a store.
abbrev pub IsReadyFor : StoreFields → Change → Type 0
IsReadyFor s (Create object attribute) = IsAboveAll s object
IsReadyFor s (Delete object) = IsThere s object
IsReadyFor s (Write object offset bytes) = IsThere s object
IsReadyFor s (Truncate object size) = IsThere s object
IsReadyFor s (SetAttr object attribute) = IsThere s object
IsReadyFor s (SetWindow window) = ⊥
IsReadyFor s (Flush first last) = ⊥
IsReadyFor s (FlushO object first last) = ⊥

-- A change that a store takes: within the limits, of an object with a number, and one that can be made.
pub record Takes (s : StoreFields) (change : Change) : Type 0 where
  pub fits : Fits change
  pub numbered : 1 ≤ object_of change
  pub ready : IsReadyFor s change

-- The rows after a change of an object at a moment: that of the object has another journal and was changed once more, and
-- all others are as they were.
pub record RowChanges (s : StoreFields) (o m : ℕ) (rows : List (ℕ × Row)) : Type 0 where
  pub next : Row
  pub rest : next ≡ record (subject_row s o m) { head = next.head; journal_bytes = next.journal_bytes; head_bytes = next.head_bytes; stamp = (subject_row s o m).stamp + 1 }
  pub put : (q : ℕ) → row_of rows q ≡ with_row (row_of s.rows) o next q

-- the data blocks that a change of an inode appends, by ascending index
abbrev pub data_by : (Place → List ℕ) → Change → Inode → List (List ℕ)
data_by contents (Create object attribute) i = []
data_by contents (Delete object) i = []
data_by contents (Write object offset bytes) i = blocks_written contents i offset bytes
data_by contents (Truncate object size) i = blocks_cut contents i size
data_by contents (SetAttr object attribute) i = []
data_by contents (SetWindow window) i = []
data_by contents (Flush first last) i = []
data_by contents (FlushO object first last) i = []

-- Data blocks of an object with these bytes were appended, and then this many blocks in all were taken, by changing nothing
-- but the object's journal.
pub record Appends (object : ℕ) (data_bytes : List (List ℕ)) (count : ℕ) (before after : Log) : Type 0 where
  pub between : Log
  pub grown : between ≡ with_data object data_bytes before
  pub growth : GrowsBy object data_bytes before between
  pub others : OnlyJournalChanged object between.held after.held
  pub takes : TakesPlaces count before after

-- what a change at this moment appends to a store's log: its data, and as many blocks in all as are counted before
abbrev pub AppendsBy : StoreFields → Change → ℕ → Log → Type 0
AppendsBy s change m later = Appends (object_of change) (data_by (contents_of s.log.held) change (subject_inode s (object_of change) m)) (blocks_taken s change m) s.log later
