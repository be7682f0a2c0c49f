-- Which used blocks of an image its rows name, and what is held of it where just these are.
use Rattle.std.specs.Prelude.{◌≡◌, ℕ, ◌+◌, ◌<◌, true, List, [], ◌∷◌, Option, Some, IsSome}
use Rattle.std.specs.List.{Contains}
use Rattle.s4_types.specs.Pointer.{Place}
use Rattle.block_log.specs.Log.{Stored, of_kind, is_data}
use Rattle.block_log.specs.declared.kinds.BlockKind.{BlockKind}
use Rattle.block_log.specs.declared.kinds.BlockKind.TheVariants.{Journal, Checkpoint, Data, Pointers}
use Rattle.journal_chain.specs.Chain.{times, chain_places}
use Rattle.image_objects.specs.declared.rows.ImageRow.{ImageRow}
use Rattle.checkpoint.specs.Held.{is_one_of}
use Rattle.version_store.specs.Store.{times_led}
use Rattle.image_objects.specs.Inodes.{checkpoint_places_used}
use Rattle.image_objects.specs.Objects.{pointers_used}

-- A row of an image names its object's block of this kind at a place: it is in the row's chain; or it is a block of the
-- row's checkpoint, the first one or that of a part, as it is used there; or a pointer that the row refers to is this place.
abbrev pub NamesUsed : (Place → Option Stored) → ImageRow → BlockKind → Place → Type 0
NamesUsed used row Journal p = 0 < times p (chain_places (of_kind Journal row.object used) row.object row.head)
NamesUsed used row Checkpoint p = (is_one_of (checkpoint_places_used used row) p ≡ true) × IsSome (of_kind Checkpoint row.object used p)
NamesUsed used row Data p = Contains (pointers_used used row) (Some p)
NamesUsed used row Pointers p = (is_one_of (checkpoint_places_used used row) p ≡ true) × IsSome (of_kind Pointers row.object used p)

-- a block is one that some row of its object names as what it is
pub record IsNamedBy (used : Place → Option Stored) (rows : List ImageRow) (p : Place) (block : Stored) : Type 0 where
  pub row : ImageRow
  pub listed : Contains rows row
  pub object : row.object ≡ block.object
  pub names : NamesUsed used row block.kind p

-- Of the used blocks of an image those are held that its rows name, and no others.
pub record HoldsWhatIsNamed (used held : Place → Option Stored) (rows : List ImageRow) : Type 0 where
  pub kept : (p : Place) (block : Stored) → held p ≡ Some block → used p ≡ Some block
  pub named : (p : Place) (block : Stored) → held p ≡ Some block → IsNamedBy used rows p block
  pub all : (p : Place) (block : Stored) → used p ≡ Some block → IsNamedBy used rows p block → held p ≡ Some block

-- how often the pointers of rows refer to a place, all rows taken together
abbrev pub times_told : (Place → Option Stored) → List ImageRow → Place → ℕ
times_told used [] p = 0
times_told used (row ∷ rows) p = times_led p (pointers_used used row) + times_told used rows p

-- each used data block has as many names as the rows' pointers refer to it
abbrev pub NamesAreCounted : (Place → Option Stored) → (Place → ℕ) → List ImageRow → Type 0
NamesAreCounted used named rows = (p : Place) → is_data (used p) ≡ true → named p ≡ times_told used rows p
