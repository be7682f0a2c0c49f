-- What the removal of an object's row leaves of a whole store, and what its replacement does. No public clause cites this file.
use Rattle.std.specs.Prelude.{◌≡◌, ℕ, ◌==◌, ◌++◌, true, if◌then◌else◌, List, [], Some, None, IsSome}
use Rattle.s4_types.specs.declared.versions.Version.TheVariants.{Absent}
use Rattle.codec.specs.declared.inodes.Inode.{Inode}
use Rattle.block_log.specs.Log.{Log}
use Rattle.codec.specs.Entry.{EntryFields, entries_length}
use Rattle.undo_redo.specs.Runs.{Run, AllBy, redone_all, undone_all, inode_after, entries_by, entries_past, moments_ascend_from}
use Rattle.undo_redo.specs.Groups.{grouped}
use Rattle.object_map.specs.declared.map.Row.{Row}
use Rattle.time_read.specs.Rows.{IsRow, entries_of, inode_of}
use Rattle.time_read.specs.Orderly.{IsFromTo, IsOrderly, IsOrderlyChain}
use Rattle.row_changes.specs.Recent.{IsBy}
use Rattle.inode.specs.Contents.{contents_of, meaning}
use Rattle.version_store.specs.Store.{StoreFields, IsStore}
use Rattle.version_store.specs.Versions.{inode_in, version_in}
use Rattle.version_store.specs.Replacing.{IsRemoved, IsReplaced, inode_led}

-- an object was removed
pub record Removes (s : StoreFields) (o : ℕ) (later : StoreFields) : Type 0 where
  pub store : IsStore later
  pub removed : IsRemoved s o later
  pub inodes : (q t : ℕ) → inode_in later q t ≡ (if o == q then None else inode_in s q t)
  pub versions : (q t : ℕ) → version_in later q t ≡ (if o == q then Absent else version_in s q t)

-- an object's journal was replaced by these entries, and its present inode is this one
pub record Replaces (s : StoreFields) (o : ℕ) (row : Row) (present : Inode) (entries : List EntryFields) (later : StoreFields) : Type 0 where
  pub store : IsStore later
  pub replaced : IsReplaced s o row present entries later
  pub inodes : (q t : ℕ) → inode_in later q t ≡ (if o == q then Some (inode_led present entries t) else inode_in s q t)
  pub versions : (q t : ℕ) → version_in later q t ≡ (if o == q then meaning (contents_of s.log.held) (inode_led present entries t) else version_in s q t)

-- The object's next row stands, and tells these entries and this present inode; it names no older checkpoints.
pub record Rewrites (later : Log) (o : ℕ) (row next : Row) (present : Inode) (entries : List EntryFields) (m : ℕ) : Type 0 where
  pub stands : IsRow later.held o next
  pub by : IsBy later.held o next m
  pub entries_are : entries_of later.held o next ≡ entries
  pub inode : (t : ℕ) → inode_of later.held o next t ≡ inode_led present entries t
  pub orderly : (latest : ℕ) → IsOrderlyChain row.created latest (undone_all entries present) entries → IsFromTo row.created latest m → IsFromTo 1 latest row.created → IsOrderly later.held o next latest
  pub fields : next ≡ record row { checkpoint = next.checkpoint; checkpoint_moment = m; head = next.head; journal_bytes = entries_length entries; head_bytes = next.head_bytes; sides = [] }
  pub some : IsSome next.checkpoint

-- each entry is done up to the moment of the last
abbrev pub AllAreDone : Type 0
AllAreDone = (i : Inode) (entries : List EntryFields) (t : ℕ) → AllBy t entries → inode_after i entries t ≡ redone_all entries i

-- a run ends where its entries lead
abbrev pub RunsEnd : Type 0
RunsEnd = (i j : Inode) (entries : List EntryFields) → Run i entries j → j ≡ redone_all entries i

-- and it begins where undoing them leads
abbrev pub RunsBegin : Type 0
RunsBegin = (i j : Inode) (entries : List EntryFields) → Run i entries j → i ≡ undone_all entries j

-- what is done in two parts is done as a whole
abbrev pub RunsJoin : Type 0
RunsJoin = (i : Inode) (front back : List EntryFields) → redone_all (front ++ back) i ≡ redone_all back (redone_all front i)

-- and so is the inode at a moment
abbrev pub InodesJoin : Type 0
InodesJoin = (i : Inode) (front back : List EntryFields) (t : ℕ) → inode_after i (front ++ back) t ≡ inode_after (inode_after i front t) back t

-- entries whose moments don't descend are those up to a moment and the later ones after them
abbrev pub EntriesPart : Type 0
EntriesPart = (entries : List EntryFields) (low t : ℕ) → moments_ascend_from low entries ≡ true → entries ≡ entries_by t entries ++ entries_past t entries

-- and the later ones lead from the inode at the moment to the last
abbrev pub LaterEntriesRun : Type 0
LaterEntriesRun = (i k : Inode) (entries : List EntryFields) (low t : ℕ) → moments_ascend_from low entries ≡ true → Run i entries k → Run (inode_after i entries t) (entries_past t entries) k

-- groups stay groups where the first entries are cut
abbrev pub LaterGroups : Type 0
LaterGroups = (front back : List EntryFields) → grouped (front ++ back) ≡ true → grouped back ≡ true
