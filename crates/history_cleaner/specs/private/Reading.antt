-- What was read of an object before it is cleaned. No public clause cites this file.
use Rattle.std.specs.Prelude.{◌≡◌, ℕ, List, Option}
use Rattle.codec.specs.Entry.{EntryFields}
use Rattle.object_map.specs.declared.map.Row.{Row}
use Rattle.time_read.specs.Rows.{entries_of}
use Rattle.s4_model.specs.State.{State}
use Rattle.version_store.specs.Store.{StoreFields}
use Rattle.chain_rewriting.specs.Cleaned.{KeptChain}
use Rattle.history_cleaner.specs.Laws.{HasChain}
use Rattle.history_cleaner.specs.Cleaning.{left_in}

-- an object has a row, with these entries, and this is what is left of its chain
pub record IsLeft (s : StoreFields) (state : State) (o : ℕ) (entries : List EntryFields) (chain : Option KeptChain) : Type 0 where
  pub row : Row
  pub has : HasChain s o row state.clock
  pub told : entries ≡ entries_of s.log.held o row
  pub left : left_in s state o row ≡ chain
