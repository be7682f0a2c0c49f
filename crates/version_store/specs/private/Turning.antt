-- What one change leaves of a whole store. No public clause cites this file.
use Rattle.std.specs.Prelude.{◌≡◌, ◌⊎◌, ℕ, ◌+◌, ◌^◌, ◌<◌, ◌≤◌, ◌==◌, ◌&&◌, ◌||◌, true, false, nat_le, if◌then◌else◌, List, length, Option, Some, None, is_some}
use Rattle.std.specs.List.{Contains, AllByRecursion}
use Rattle.s4_types.specs.Pointer.{Place}
use Rattle.s4_types.specs.declared.limits.TheConstants.{JOURNAL_ENTRY_BYTES, OBJECT_BLOCKS, SIDES}
use Rattle.s4_types.specs.declared.changes.Change.{Change}
use Rattle.block_log.specs.Log.{NamesAreOfData}
use Rattle.block_log.specs.Taken.{TakesPlaces}
use Rattle.codec.specs.Checkpoint.{pointer_at}
use Rattle.codec.specs.declared.inodes.Inode.{Inode}
use Rattle.object_map.specs.declared.map.Row.{Row}
use Rattle.object_map.specs.Rows.{row_of, fresh_row}
use Rattle.undo_redo.specs.Between.{CanLead, entries_between}
use Rattle.journal_chain.specs.Chain.{OnlyJournalChanged}
use Rattle.journal_chain.specs.Push.{HasRoom, pushed_blocks}
use Rattle.time_read.specs.Rows.{chain_of, inode_of}
use Rattle.time_read.specs.Orderly.{IsOrderly}
use Rattle.inode.specs.Contents.{contents_of, meaning}
use Rattle.inode.specs.Tidiness.{Tidy, PointersHeld}
use Rattle.version_store.specs.Store.{StoreFields, IsStore, IsObject, HasNothing, pointers_named, times_led, named_of}
use Rattle.version_store.specs.Across.{MakingsAscend, ChainsShareNoMoment}
use Rattle.version_store.specs.Versions.{version_in, version_taken}
use Rattle.version_store.specs.Costs.{subject_row, subject_inode, sizes_by, blocks_taken, change_refusal}
use Rattle.s4_model.specs.Effect.{object_of}
use Rattle.version_store.specs.Taking.{Takes, RowChanges, data_by, Appends}

-- A change that isn't refused can be taken at a moment, and begins with this inode; each of its journal entries fits a block.
pub record CanTake (s : StoreFields) (change : Change) (m : ℕ) (present : Inode) : Type 0 where
  pub store : IsStore s
  pub later : s.latest < m
  pub takes : Takes s change
  pub begins : present ≡ subject_inode s (object_of change) m
  pub free : change_refusal s change m ≡ None
  pub fit : AllByRecursion (λ size. size ≤ JOURNAL_ENTRY_BYTES) (sizes_by change present)

-- some pointer of an inode refers to this place
abbrev pub LeadsTo : Inode → Place → Type 0
LeadsTo i p = (k : ℕ) × (pointer_at i k ≡ Some p)

-- the names that pointers beside the rows give to a place in the data of their object, and none in that of another
abbrev pub times_given : ℕ → ℕ → List (Option Place) → Place → ℕ
times_given o q hand p = if o == q then times_led p hand else 0

-- A store, but that the row of one object may not be in order yet, and that data of it may have names that no row gives it yet:
-- these pointers do, to which this inode, its next one, leads.
pub record IsOpenFor (o : ℕ) (i : Inode) (hand : List (Option Place)) (s : StoreFields) : Type 0 where
  pub objects : (q : ℕ) (row : Row) → row_of s.rows q ≡ Some row → IsObject s.log.held q row s.latest
  pub orderly : (q : ℕ) (row : Row) → (o == q) ≡ false → row_of s.rows q ≡ Some row → IsOrderly s.log.held q row s.latest
  pub names : NamesAreOfData s.log
  pub counted : (q : ℕ) (row : Row) → row_of s.rows q ≡ Some row → (p : Place) → named_of q s.log p ≡ times_led p (pointers_named s.log.held q row) + times_given o q hand p
  pub few : (q : ℕ) (row : Row) → row_of s.rows q ≡ Some row → length row.sides ≤ SIDES
  pub led : (p : Place) → Contains hand (Some p) → LeadsTo i p
  pub short : length hand ≤ OBJECT_BLOCKS
  pub nothing : (q : ℕ) → row_of s.rows q ≡ None → HasNothing s.log.held q
  pub stamps : (q : ℕ) (row : Row) → row_of s.rows q ≡ Some row → row.stamp ≤ s.log.spent
  pub bounded : s.log.spent + length s.log.ahead < 2 ^ 46
  pub ascending : MakingsAscend s.rows
  pub apart : ChainsShareNoMoment s.log.held s.rows

-- An object can have another inode from a moment on: it has a row, the first inode is its present one, entries of the
-- moment lead from it to the next one, which is tidy, and there is room for them. Either the row is that of an object made
-- at the moment, or it is in order and the first inode is live.
pub record CanTurn (s : StoreFields) (o : ℕ) (i j : Inode) (hand : List (Option Place)) (m : ℕ) : Type 0 where
  pub store : IsOpenFor o j hand s
  pub later : s.latest < m
  pub row : Row
  pub there : row_of s.rows o ≡ Some row
  pub before : i ≡ inode_of s.log.held o row s.latest
  pub from : (row ≡ fresh_row m) ⊎ (IsOrderly s.log.held o row s.latest × (i.alive ≡ true))
  pub lead : CanLead i j m
  pub tidy : Tidy (contents_of s.log.held) j
  pub pointers : PointersHeld s.log.held o j
  pub room : HasRoom (chain_of o row) s.log.ahead (entries_between i j m)

-- how many blocks that takes
abbrev pub blocks_turned : StoreFields → ℕ → Inode → Inode → ℕ → ℕ
blocks_turned s o i j m = pushed_blocks (chain_of o (subject_row s o m)) (entries_between i j m)

-- From a moment on, which is then the latest, an object has this inode; all other versions are as they were, and this many
-- blocks were taken for its journal alone.
pub record Turns (s : StoreFields) (o m : ℕ) (i : Inode) (count : ℕ) (later : StoreFields) : Type 0 where
  pub store : IsStore later
  pub versions : (q t : ℕ) → version_in later q t ≡ (if o == q && nat_le m t then meaning (contents_of s.log.held) i else version_in s q t)
  pub latest : later.latest ≡ m
  pub row : RowChanges s o m later.rows
  pub others : OnlyJournalChanged o s.log.held later.log.held
  pub takes : TakesPlaces count s.log later.log

-- A change of an object was taken, which began with this inode.
pub record IsTaken (s : StoreFields) (change : Change) (m : ℕ) (present : Inode) (later : StoreFields) : Type 0 where
  pub store : IsStore later
  pub taken : (o t : ℕ) → version_in later o t ≡ version_taken s change m o t
  pub latest : later.latest ≡ m
  pub rows : (o : ℕ) → is_some (row_of later.rows o) ≡ (is_some (row_of s.rows o) || o == object_of change)
  pub row : RowChanges s (object_of change) m later.rows
  pub blocks : Appends (object_of change) (data_by (contents_of s.log.held) change present) (blocks_taken s change m) s.log later.log
