-- The laws of chains that the laws of what is left rest on. No public clause cites this file.
use Rattle.std.specs.Prelude.{◌≡◌, ℕ, ◌≤◌, List}
use Rattle.codec.specs.declared.inodes.Inode.{Inode}
use Rattle.codec.specs.Entry.{EntryFields}
use Rattle.undo_redo.specs.Runs.{Run, AllBy, redone_all, undone_all, inode_after}
use Rattle.chain_rewriting.specs.CleaningLaws.{AKeptChainIsARun, AChainIsOneLater}

-- the laws of runs
pub record RunLaws : Type 0 where
  pub ends : (i j : Inode) (entries : List EntryFields) → Run i entries j → j ≡ redone_all entries i
  pub begins : (i j : Inode) (entries : List EntryFields) → Run i entries j → i ≡ undone_all entries j
  pub done : (i : Inode) (entries : List EntryFields) (t : ℕ) → AllBy t entries → inode_after i entries t ≡ redone_all entries i
  pub since : (i : Inode) (entries : List EntryFields) (m t : ℕ) → AllBy m entries → m ≤ t → inode_after i entries t ≡ inode_after i entries m

-- and that a chain is one at a later moment too, and a run still where it is cleaned
pub record ChainLaws : Type 0 where
  pub run : RunLaws
  pub later : AChainIsOneLater
  pub is_run : AKeptChainIsARun
