-- What is known of entries of a later moment that come after those of an object's row. No public clause cites this file.
use Rattle.std.specs.Prelude.{◌≡◌, ℕ, ◌≤◌, true, List, ◌++◌, Option}
use Rattle.s4_types.specs.declared.limits.TheConstants.{JOURNAL_ENTRY_BYTES}
use Rattle.s4_types.specs.Pointer.{Place}
use Rattle.block_log.specs.Log.{Stored}
use Rattle.codec.specs.declared.inodes.Inode.{Inode}
use Rattle.codec.specs.Entry.{EntryFields}
use Rattle.undo_redo.specs.Runs.{Run, AllBy, AllPast, inode_after, redone_all}
use Rattle.undo_redo.specs.Groups.{grouped}
use Rattle.object_map.specs.declared.map.Row.{Row}
use Rattle.journal_chain.specs.Chain.{ChainFields, Holds, entries_held}
use Rattle.time_read.specs.Rows.{IsRow}

-- The runs of both join, and so do their groups; the inode at a moment is told by those that are up to it, and the chain
-- that is held has all of them.
pub record LaterEntriesJoin : Type 0 where
  pub end : (i j : Inode) (entries : List EntryFields) → Run i entries j → j ≡ redone_all entries i
  pub join : (i j k : Inode) (front back : List EntryFields) → Run i front j → Run j back k → Run i (front ++ back) k
  pub done : (i : Inode) (entries : List EntryFields) (t : ℕ) → AllBy t entries → inode_after i entries t ≡ redone_all entries i
  pub later : (i : Inode) (entries later : List EntryFields) (t : ℕ) → AllPast t later → inode_after i (entries ++ later) t ≡ inode_after i entries t
  pub since : (i : Inode) (entries : List EntryFields) (m t : ℕ) → AllBy m entries → m ≤ t → inode_after i entries t ≡ inode_after i entries m
  pub joined : (i : Inode) (front back : List EntryFields) (t : ℕ) → inode_after i (front ++ back) t ≡ inode_after (inode_after i front t) back t
  pub groups : (m : ℕ) (front back : List EntryFields) → grouped front ≡ true → grouped back ≡ true → AllBy m front → AllPast m back → grouped (front ++ back) ≡ true
  pub chain : (held : Place → Option Stored) (chain : ChainFields) (entries : List EntryFields) → Holds held chain entries → entries_held held chain ≡ entries
  pub newest : (held : Place → Option Stored) (o : ℕ) (row : Row) → IsRow held o row → row.head_bytes ≤ JOURNAL_ENTRY_BYTES
