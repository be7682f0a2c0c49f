-- What the cleaner is handed: an object's chain, as the layers below keep it.
use Rattle.std.specs.Prelude.{◌≡◌, ℕ, true, List}
use Rattle.std.specs.List.{AllByRecursion}
use Rattle.codec.specs.declared.inodes.Inode.{Inode}
use Rattle.codec.specs.Entry.{EntryFields, entry_rules}
use Rattle.undo_redo.specs.Runs.{Run, redone_all}
use Rattle.undo_redo.specs.Groups.{grouped}
use Rattle.time_read.specs.Orderly.{IsOrderlyChain}

-- A chain of an object made at this moment, in order up to a latest moment: its entries keep the rules of entries and of
-- groups, and lead from its first inode on.
pub record IsChain (created latest : ℕ) (first : Inode) (entries : List EntryFields) : Type 0 where
  pub run : Run first entries (redone_all entries first)
  pub groups : grouped entries ≡ true
  pub rules : AllByRecursion (λ e. entry_rules e ≡ true) entries
  pub order : IsOrderlyChain created latest first entries
