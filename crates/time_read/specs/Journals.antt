-- What an object's row refers to in its journal and its checkpoint.
use Rattle.std.specs.Prelude.{◌≡◌, ℕ, true, Option, IfSome, option_map}
use Rattle.s4_types.specs.Pointer.{Place}
use Rattle.block_log.specs.Log.{Stored}
use Rattle.codec.specs.Checkpoint.{checkpoint_rules}
use Rattle.object_map.specs.declared.map.Row.{Row}
use Rattle.time_read.specs.Rows.{entries_of, checkpoint_of}
use Rattle.time_read.specs.declared.journals.ObjectJournal.{ObjectJournal}

-- A journal is that of an object's row: it has the inode of the checkpoint that the row names, if it names one, which keeps the
-- rules, and all entries of the row's chain.
pub record IsJournalOf (held : Place → Option Stored) (o : ℕ) (row : Row) (journal : ObjectJournal) : Type 0 where
  pub inode : journal.checkpoint ≡ option_map (λ c. c.inode) (checkpoint_of held o row)
  pub rules : IfSome (checkpoint_of held o row) (λ c. checkpoint_rules c ≡ true)
  pub entries : journal.entries.items ≡ entries_of held o row
