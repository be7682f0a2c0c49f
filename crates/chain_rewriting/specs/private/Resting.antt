-- What the laws of kept chains rest on. No public clause cites this file.
use Rattle.std.specs.Prelude.{◌≡◌, ℕ, true, List, ◌++◌}
use Rattle.codec.specs.declared.inodes.Inode.{Inode}
use Rattle.codec.specs.Entry.{EntryFields}
use Rattle.undo_redo.specs.Redone.{redone}
use Rattle.undo_redo.specs.Linked.{Linked}
use Rattle.undo_redo.specs.Runs.{Run, redone_all, inode_after, AllAt, AllBy, AllPast, moments_ascend_from}
use Rattle.undo_redo.specs.Groups.{grouped}
use Rattle.undo_redo.specs.Between.{CanLead, entries_between}

-- an entry that leads from an inode to another one redoes it
abbrev pub Redoes : Type 0
Redoes = (i j : Inode) (e : EntryFields) → Linked i e j → j ≡ redone e i

-- all entries between two inodes are of one moment
abbrev pub AllOfOne : Type 0
AllOfOne = (i j : Inode) (m : ℕ) → AllAt m (entries_between i j m)

-- the entries between two inodes lead from the one to the other
abbrev pub BetweenRuns : Type 0
BetweenRuns = (i j : Inode) (m : ℕ) → CanLead i j m → Run i (entries_between i j m) j

-- a run ends where its entries are all redone
abbrev pub Ends : Type 0
Ends = (i j : Inode) (entries : List EntryFields) → Run i entries j → j ≡ redone_all entries i

-- by a moment at or after all entries all are redone
abbrev pub Done : Type 0
Done = (i : Inode) (entries : List EntryFields) (t : ℕ) → AllBy t entries → inode_after i entries t ≡ redone_all entries i

-- later entries make no difference
abbrev pub Later : Type 0
Later = (i : Inode) (entries later : List EntryFields) (t : ℕ) → AllPast t later → inode_after i (entries ++ later) t ≡ inode_after i entries t

-- entries after others go on from where these end
abbrev pub Joined : Type 0
Joined = (i : Inode) (front back : List EntryFields) (t : ℕ) → inode_after i (front ++ back) t ≡ inode_after (inode_after i front t) back t

-- the moments of groups ascend
abbrev pub GroupsAscend : Type 0
GroupsAscend = (entries : List EntryFields) → grouped entries ≡ true → moments_ascend_from 0 entries ≡ true

-- the laws of the layer below
pub record Facts : Type 0 where
  pub redoes : Redoes
  pub one : AllOfOne
  pub between : BetweenRuns
  pub ends : Ends
  pub done : Done
  pub later : Later
  pub joined : Joined
  pub ascend : GroupsAscend
