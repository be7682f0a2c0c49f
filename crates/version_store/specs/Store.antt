-- What contracts see of a store of objects, and what holds of each store.
use Rattle.std.specs.Prelude.{◌≡◌, ℕ, ◌+◌, ◌^◌, ◌<◌, ◌≤◌, Bool, true, false, if◌then◌else◌, List, [], ◌∷◌, ◌++◌, length, Option, Some, None, is_some, IsSome, IfSome}
use Rattle.std.specs.List.{All, Contains, count_by, flat_map}
use Rattle.s4_types.specs.Pointer.{Place}
use Rattle.s4_types.specs.declared.limits.TheConstants.{SIDES}
use Rattle.block_log.specs.declared.kinds.BlockKind.{BlockKind}
use Rattle.block_log.specs.declared.kinds.BlockKind.TheVariants.{Journal, Checkpoint, Data, Pointers}
use Rattle.block_log.specs.Log.{Log, Stored, NamesAreOfData, of_kind, same_place}
use Rattle.codec.specs.Checkpoint.{CheckpointFields}
use Rattle.codec.specs.Entry.{EntryFields}
use Rattle.codec.specs.declared.entries.Triple.{Triple}
use Rattle.journal_chain.specs.Chain.{times, chain_places}
use Rattle.object_map.specs.declared.map.Row.{Row}
use Rattle.object_map.specs.Rows.{row_of}
use Rattle.object_map.specs.declared.sides.Side.{Side}
use Rattle.checkpoint.specs.Held.{checkpoint_held, is_one_of}
use Rattle.time_read.specs.Rows.{IsRow, inode_of, entries_of, checkpoint_of, all_places_of}
use Rattle.time_read.specs.Orderly.{IsOrderly}
use Rattle.row_changes.specs.Recent.{IsBy}
use Rattle.inode.specs.Contents.{contents_of}
use Rattle.inode.specs.Tidiness.{Tidy, PointersHeld}
use Rattle.version_store.specs.Across.{MakingsAscend, ChainsShareNoMoment}

-- the rows of all objects, the table that their blocks are in, and the moment of the last change
pub record StoreOf (T : Type 0) : Type 0 where
  pub rows : List (ℕ × Row)
  pub table : T
  pub latest : ℕ

-- the same, with the table as its log
pub record StoreFields : Type 0 where
  pub rows : List (ℕ × Row)
  pub log : Log
  pub latest : ℕ

-- a store over what its table is as a log
abbrev pub fields_of : {T : Type 0} → (T → Log) → StoreOf T → StoreFields
fields_of log s = record { rows = s.rows; log = log s.table; latest = s.latest }

-- both pointers of each triple, in order
abbrev pub sides_of : List Triple → List (Option Place)
sides_of triples = flat_map (λ t. t.before ∷ t.after ∷ []) triples

-- both pointers of each triple of entries, those of the first entry first
abbrev pub sides_told : List EntryFields → List (Option Place)
sides_told entries = flat_map (λ e. sides_of e.triples) entries

-- the pointers of a checkpoint; none where there is none
abbrev pub pointers_kept : Option CheckpointFields → List (Option Place)
pointers_kept None = []
pointers_kept (Some c) = c.inode.pointers

-- All pointers to data that an object's row refers to, holes among them: those of its checkpoint, and after them both
-- sides of each triple of its chain, the oldest entry first.
abbrev pub pointers_of : (Place → Option Stored) → ℕ → Row → List (Option Place)
pointers_of held o row = pointers_kept (checkpoint_of held o row) ++ sides_told (entries_of held o row)

-- the pointers of older checkpoints, those of the oldest first
abbrev pub pointers_of_sides : (Place → Option Stored) → ℕ → List Side → List (Option Place)
pointers_of_sides held o sides = flat_map (λ side. pointers_kept (checkpoint_held held o side.place)) sides

-- the pointers of the older checkpoints that an object's row names
abbrev pub pointers_aside : (Place → Option Stored) → ℕ → Row → List (Option Place)
pointers_aside held o row = pointers_of_sides held o row.sides

-- Every pointer by which an object's row names data, as often as it does, holes among them: all that it refers to, and after
-- them those of its older checkpoints.
abbrev pub pointers_named : (Place → Option Stored) → ℕ → Row → List (Option Place)
pointers_named held o row = pointers_of held o row ++ pointers_aside held o row

-- whether a pointer refers to this place
abbrev pub is_at : Option Place → Place → Bool
is_at None q = false
is_at (Some p) q = same_place p q

-- how many of the pointers refer to a place
abbrev pub times_led : Place → List (Option Place) → ℕ
times_led q pointers = count_by (λ pointer. is_at pointer q) pointers

-- how many names an object's data block at a place has; 0 where none is held
abbrev pub named_of : ℕ → Log → Place → ℕ
named_of o log p = if is_some (of_kind Data o log.held p) then log.named p else 0

-- each data block of an object has as many names as of these pointers refer to it
abbrev pub IsNamedBy : ℕ → Log → List (Option Place) → Type 0
IsNamedBy o log pointers = (p : Place) → named_of o log p ≡ times_led p pointers

-- a pointer is a hole, or refers to a data block of the object
abbrev pub IsLed : (Place → Option Stored) → ℕ → Option Place → Type 0
IsLed held o pointer = IfSome pointer (λ p. IsSome (of_kind Data o held p))

-- An object of this row is held: nothing that the row tells of is later than the last change, each pointer that the row
-- leads to is a hole or refers to a data block of the object, and at each moment the object's inode is tidy, and its
-- pointers refer to such blocks too.
pub record IsObject (held : Place → Option Stored) (o : ℕ) (row : Row) (latest : ℕ) : Type 0 where
  pub stands : IsRow held o row
  pub by : IsBy held o row latest
  pub led : All (IsLed held o) (pointers_of held o row)
  pub tidy : (t : ℕ) → Tidy (contents_of held) (inode_of held o row t)
  pub pointers : (t : ℕ) → PointersHeld held o (inode_of held o row t)

-- each data block of an object of this row that is held is one that a pointer of the row refers to
abbrev pub DataIsNamed : (Place → Option Stored) → ℕ → Row → Type 0
DataIsNamed held o row = (p : Place) → IsSome (of_kind Data o held p) → Contains (pointers_of held o row) (Some p)

-- no block of an object is held
abbrev pub HasNothing : (Place → Option Stored) → ℕ → Type 0
HasNothing held o = (kind : BlockKind) (p : Place) → of_kind kind o held p ≡ None

-- Each object that has a row is held, and its row is in order up to the last change. Of its data each block has one name for each
-- pointer by which the row names it, older checkpoints' among them; nothing but held data has names; and of an object without a
-- row no block is held. A row has at most SIDES older checkpoints, and was changed no more often than places were ever taken: each
-- change takes one. The places that were ever taken and those ahead are fewer than 2^46.
-- Across rows: of two objects the one with the greater number was made later, and no moment is in the chains of both.
pub record IsStore (s : StoreFields) : Type 0 where
  pub objects : (o : ℕ) (row : Row) → row_of s.rows o ≡ Some row → IsObject s.log.held o row s.latest
  pub orderly : (o : ℕ) (row : Row) → row_of s.rows o ≡ Some row → IsOrderly s.log.held o row s.latest
  pub names : NamesAreOfData s.log
  pub counted : (o : ℕ) (row : Row) → row_of s.rows o ≡ Some row → IsNamedBy o s.log (pointers_named s.log.held o row)
  pub few : (o : ℕ) (row : Row) → row_of s.rows o ≡ Some row → length row.sides ≤ SIDES
  pub nothing : (o : ℕ) → row_of s.rows o ≡ None → HasNothing s.log.held o
  pub stamps : (o : ℕ) (row : Row) → row_of s.rows o ≡ Some row → row.stamp ≤ s.log.spent
  pub bounded : s.log.spent + length s.log.ahead < 2 ^ 46
  pub ascending : MakingsAscend s.rows
  pub apart : ChainsShareNoMoment s.log.held s.rows

-- A row names an object's block of this kind at a place: it is in the object's chain, once; or it is at the place of a block
-- of one of the row's checkpoints, and is held there as a first block or as a part; or the newest checkpoint has a pointer to
-- it, or a triple of the chain has, on either side.
abbrev pub Names : (Place → Option Stored) → ℕ → Row → BlockKind → Place → Type 0
Names held o row Journal p = times p (chain_places (of_kind Journal o held) o row.head) ≡ 1
Names held o row Checkpoint p = (is_one_of (all_places_of held o row) p ≡ true) × IsSome (of_kind Checkpoint o held p)
Names held o row Data p = Contains (pointers_of held o row) (Some p)
Names held o row Pointers p = (is_one_of (all_places_of held o row) p ≡ true) × IsSome (of_kind Pointers o held p)

-- an object has a row, which names its block of this kind at a place
pub record IsNamed (s : StoreFields) (o : ℕ) (kind : BlockKind) (p : Place) : Type 0 where
  pub row : Row
  pub there : row_of s.rows o ≡ Some row
  pub names : Names s.log.held o row kind p
