-- Which data blocks of an object are reached by what can be read, and when those are all that are held.
use Rattle.std.specs.Prelude.{◌≡◌, ℕ, ◌↔◌, Bool, true, List, Some, IsSome, IfSome}
use Rattle.std.specs.List.{Contains}
use Rattle.s4_types.specs.Pointer.{Place}
use Rattle.block_log.specs.declared.kinds.BlockKind.TheVariants.{Data}
use Rattle.block_log.specs.Log.{of_kind}
use Rattle.codec.specs.declared.inodes.Inode.{Inode}
use Rattle.codec.specs.Checkpoint.{pointer_at}
use Rattle.codec.specs.Entry.{EntryFields}
use Rattle.undo_redo.specs.Runs.{undone_all}
use Rattle.object_map.specs.declared.map.Row.{Row}
use Rattle.object_map.specs.Rows.{row_of}
use Rattle.time_read.specs.Rows.{entries_of, first_of}
use Rattle.s4_model.specs.State.{State}
use Rattle.s4_model.specs.Visible.{IsVisible}
use Rattle.version_store.specs.Store.{StoreFields, IsStore}
use Rattle.version_store.specs.Versions.{inode_in}
use Rattle.version_store.specs.Replacing.{pointers_told}
use Rattle.chain_rewriting.specs.Cleaned.{KeptChain}
use Rattle.chain_rewriting.specs.CleaningLaws.{IsSeenPlaceOf, TellsOfPlacesWithin}
use Rattle.history_cleaner.specs.Laws.{HasChain, IsSight, left_of}
use Rattle.history_cleaner.specs.Sight.{is_visible}

-- A place is reached of an object: at some moment that can be read the object's inode is live, and has a pointer to it.
pub record IsReached (s : StoreFields) (state : State) (o : ℕ) (p : Place) : Type 0 where
  pub moment : ℕ
  pub visible : IsVisible state o moment
  pub inode : Inode
  pub current : inode_in s o moment ≡ Some inode
  pub alive : inode.alive ≡ true
  pub index : ℕ
  pub at : pointer_at inode index ≡ Some p

-- At a moment an object's inode is live, and has a pointer to a place.
pub record PointsTo (s : StoreFields) (o t : ℕ) (p : Place) : Type 0 where
  pub inode : Inode
  pub current : inode_in s o t ≡ Some inode
  pub alive : inode.alive ≡ true
  pub index : ℕ
  pub at : pointer_at inode index ≡ Some p

-- Of an object a data block is held at a place exactly where that is reached.
abbrev pub HoldsWhatIsReached : StoreFields → State → ℕ → Type 0
HoldsWhatIsReached s state o = (p : Place) → IsSome (of_kind Data o s.log.held p) ↔ IsReached s state o p

-- a chain points to places alone, and tells of them, to which a live inode points that it shows at some moment that can be seen
abbrev pub TellsOfSeenPlaces : (ℕ → Bool) → Inode → List EntryFields → Type 0
TellsOfSeenPlaces visible first entries = TellsOfPlacesWithin (IsSeenPlaceOf visible first entries) first entries

-- the chain of an object's row does
abbrev pub RowTellsOfSeenPlaces : StoreFields → State → ℕ → Row → Type 0
RowTellsOfSeenPlaces s state o row = TellsOfSeenPlaces (is_visible state o) (first_of s.log.held o row) (entries_of s.log.held o row)

-- What is reached is held; and where an object has no row, or a chain that tells of seen places alone, nothing else is held of its
-- data. That each of its inodes is seen doesn't do: between three entries of one moment there stand two that aren't, and what
-- they alone point to is held.
abbrev pub HeldIsWhatIsReached : Type 0
HeldIsWhatIsReached = (s : StoreFields) (state : State) (o : ℕ) → IsStore s → IfSome (row_of s.rows o) (RowTellsOfSeenPlaces s state o) → HoldsWhatIsReached s state o

-- What is left of an object's chain tells of seen places alone; so each place to which its last inode or its entries point is seen.
abbrev pub WhatIsLeftTellsOfSeenPlaces : Type 0
WhatIsLeftTellsOfSeenPlaces = (sees : ℕ → ℕ → Bool) (visible : ℕ → Bool) (s : StoreFields) (o clock : ℕ) (row : Row) (chain : KeptChain)
    → HasChain s o row clock → IsSight sees visible clock → left_of sees s o row clock ≡ Some chain
    → TellsOfSeenPlaces visible (undone_all chain.entries chain.last) chain.entries

abbrev pub WhatIsLeftPointsToSeenPlaces : Type 0
WhatIsLeftPointsToSeenPlaces = (sees : ℕ → ℕ → Bool) (visible : ℕ → Bool) (s : StoreFields) (o clock : ℕ) (row : Row) (chain : KeptChain) (p : Place)
    → HasChain s o row clock → IsSight sees visible clock → left_of sees s o row clock ≡ Some chain → Contains (pointers_told chain.last chain.entries) (Some p)
    → IsSeenPlaceOf visible (undone_all chain.entries chain.last) chain.entries p

-- Where it has the entries that stand, it begins with the first inode that stands.
abbrev pub WhatIsLeftBeginsTheSame : Type 0
WhatIsLeftBeginsTheSame = (sees : ℕ → ℕ → Bool) (visible : ℕ → Bool) (s : StoreFields) (o clock : ℕ) (row : Row) (chain : KeptChain)
    → HasChain s o row clock → IsSight sees visible clock → left_of sees s o row clock ≡ Some chain → chain.entries ≡ entries_of s.log.held o row
    → undone_all chain.entries chain.last ≡ first_of s.log.held o row
