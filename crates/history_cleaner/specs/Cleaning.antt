-- What cleaning an object leaves, and when there is no room for it.
use Rattle.std.specs.Prelude.{◌≡◌, ◌⊎◌, ℕ, ◌<◌, ◌==◌, false, length, Option, Some, None, Result, IfSome, MatchOption, MatchResult, OnOk}
use Rattle.s4_types.specs.declared.refusals.Refusal.{Refusal}
use Rattle.s4_types.specs.declared.refusals.Refusal.TheVariants.{NoMemory, NoRoom}
use Rattle.s4_types.specs.declared.versions.Version.TheVariants.{Absent}
use Rattle.block_log.specs.declared.kinds.BlockKind.{BlockKind}
use Rattle.block_log.specs.Log.{of_kind}
use Rattle.undo_redo.specs.Runs.{entries_by}
use Rattle.object_map.specs.declared.map.Row.{Row}
use Rattle.object_map.specs.Rows.{row_of}
use Rattle.time_read.specs.Rows.{entries_of}
use Rattle.row_changes.specs.Rewritten.{rewritten_blocks}
use Rattle.s4_model.specs.State.{State}
use Rattle.s4_model.specs.Visible.{IsVisible}
use Rattle.version_store.specs.Store.{StoreFields}
use Rattle.version_store.specs.Versions.{inode_in, version_in}
use Rattle.version_store.specs.Replacing.{IsRemoved, IsReplaced}
use Rattle.chain_rewriting.specs.Cleaned.{KeptChain}
use Rattle.drive.specs.Fields.{DriveFields, store_of, state_in}
use Rattle.history_cleaner.specs.Laws.{left_of}
use Rattle.history_cleaner.specs.Sight.{is_seen_between}

-- what is left of an object's chain at the present clock
abbrev pub left_in : StoreFields → State → ℕ → Row → Option KeptChain
left_in s state o row = left_of (is_seen_between state o) s o row state.clock

-- What putting it in place leaves: where nothing is left the object is removed; where the chain would hold the entries that it
-- holds nothing has changed; else it was replaced.
abbrev pub Puts : StoreFields → ℕ → Row → StoreFields → Option KeptChain → Type 0
Puts s o row later None = IsRemoved s o later
Puts s o row later (Some chain) =
    (chain.entries ≡ entries_of s.log.held o row → later ≡ s) × ((chain.entries ≡ entries_of s.log.held o row → ⊥) → IsReplaced s o row chain.last chain.entries later)

-- What cleaning an object leaves: nothing has changed where it has no row.
abbrev pub Cleans : StoreFields → State → ℕ → StoreFields → Type 0
Cleans s state o later = MatchOption (row_of s.rows o) (later ≡ s) (λ row. Puts s o row later (left_in s state o row))

-- An object is as it was, by its row, its blocks, and its inode at each moment.
pub record IsUntouched (s later : StoreFields) (o : ℕ) : Type 0 where
  pub row : row_of later.rows o ≡ row_of s.rows o
  pub blocks : (kind : BlockKind) → of_kind kind o later.log.held ≡ of_kind kind o s.log.held
  pub inodes : (t : ℕ) → inode_in later o t ≡ inode_in s o t

-- all other objects are
abbrev pub OthersStay : StoreFields → ℕ → StoreFields → Type 0
OthersStay s o later = (q : ℕ) → (o == q) ≡ false → IsUntouched s later q

-- At each moment an object is as at some moment that can be read: so each inode of its chain that isn't between
-- two entries of one moment is current at such a one.
abbrev pub IsSeenThroughout : StoreFields → State → ℕ → Row → Type 0
IsSeenThroughout s state o row = (t : ℕ) → (u : ℕ) × (IsVisible state o u × (entries_by u (entries_of s.log.held o row) ≡ entries_by t (entries_of s.log.held o row)))

-- an object that has no row, or is seen throughout
abbrev pub IsClean : StoreFields → State → ℕ → Type 0
IsClean s state o = IfSome (row_of s.rows o) (IsSeenThroughout s state o)

-- an object is absent at each moment that can be read
abbrev pub IsUnseen : StoreFields → State → ℕ → Type 0
IsUnseen s state o = (t : ℕ) → IsVisible state o t → version_in s o t ≡ Absent

-- What is left of an object has other entries than its journal, and fewer places are ahead than a checkpoint and these take.
pub record HasNoRoom (s : StoreFields) (state : State) (o : ℕ) : Type 0 where
  pub row : Row
  pub there : row_of s.rows o ≡ Some row
  pub chain : KeptChain
  pub left : left_in s state o row ≡ Some chain
  pub other : chain.entries ≡ entries_of s.log.held o row → ⊥
  pub room : length s.log.ahead < rewritten_blocks chain.last chain.entries

-- What cleaning an object comes to, by the drive before it, the answer and the drive after it.
pub record CleansObject (o : ℕ) (d : DriveFields) (result : Result (Unit {0}) Refusal) (later : DriveFields) : Type 0 where
  pub cleaned : OnOk result (Cleans (store_of d) (state_in d) o (store_of later))
  pub clean : OnOk result (IsClean (store_of later) (state_in d) o)
  pub gone : OnOk result (IsUnseen (store_of d) (state_in d) o → row_of later.store.rows o ≡ None)
  pub answer : MatchResult result (λ _. HasNoRoom (store_of d) (state_in d) o → ⊥) (λ e. (e ≡ NoMemory) ⊎ ((e ≡ NoRoom) × HasNoRoom (store_of d) (state_in d) o))
