-- The objects of a drive at a moment, one by one by ascending number.
use Rattle.std.specs.Prelude.{◌≡◌, ◌≢◌, ℕ, zero, suc, ◌+◌, ◌-◌, ◌<◌, ◌==◌, ◌&&◌, ◌||◌, not, nat_le, if◌then◌else◌, Bool, true, List, [], ◌∷◌, length, Option, Some, None}
use Rattle.s4_types.specs.declared.versions.Version.{Version}
use Rattle.s4_types.specs.declared.versions.Version.TheVariants.{Absent, Live}
use Rattle.s4_model.specs.State.{State}
use Rattle.s4_model.specs.VersionAt.{version_of}
use Rattle.s4_model.specs.Visible.{IsVisible, is_hidden}
use Rattle.codec.specs.declared.inodes.Inode.{Inode}
use Rattle.version_store.specs.Store.{StoreFields}
use Rattle.version_store.specs.Versions.{inode_in}
use Rattle.history_view.specs.declared.listing.Listed.{Listed}

-- whether a moment of an object can be read
abbrev pub is_visible : State → ℕ → ℕ → Bool
is_visible s o t = (nat_le s.floor t && nat_le t s.clock) && not (is_hidden s o t)

-- the first moment that passes a test, of a moment and this many after it; the last of them where none does
abbrev pub first_from : (ℕ → Bool) → ℕ → ℕ → ℕ
first_from passes t zero = t
first_from passes t (suc n) = if passes t then t else first_from passes (t + 1) n

-- the first moment of an object, from one on, that can be read; the clock's can
abbrev pub seen_from : State → ℕ → ℕ → ℕ
seen_from s o t = first_from (is_visible s o) t (s.clock - t)

-- what an inode tells of its object
abbrev pub listed_of : ℕ → Inode → Listed
listed_of o i = record { object = o; is_live = i.alive; size = i.size; created = i.created; changed = i.changed; attribute = i.attribute }

-- whether an inode is listed: that of an object that is live, and where the deleted ones are asked for also that of one which was live
-- before. The inode of an object that wasn't made yet was never changed.
abbrev pub is_listed : Bool → Inode → Bool
is_listed deleted i = i.alive || (deleted && not (i.changed == 0))

-- what is listed of an object by its inode
abbrev pub listed_by : Bool → ℕ → Option Inode → Option Listed
listed_by deleted o None = None
listed_by deleted o (Some i) = if is_listed deleted i then Some (listed_of o i) else None

-- what is listed of an object at a moment: nothing where that moment of it can't be read
abbrev pub listed_at : State → StoreFields → Bool → ℕ → ℕ → Option Listed
listed_at s store deleted o t = if is_visible s o t then listed_by deleted o (inode_in store o t) else None

-- What is listed tells a version: whether it is live, and then its size, its moments and its attribute.
abbrev pub TellsVersion : Version → Listed → Type 0
TellsVersion Absent listed = listed.is_live ≢ true
TellsVersion (Live content attribute created changed) listed =
    (listed.is_live ≡ true) × (listed.size ≡ length content) × (listed.created ≡ created) × (listed.changed ≡ changed) × (listed.attribute ≡ attribute)

-- Nothing is listed of an object at a moment: it isn't live then, or that moment of it can't be read.
pub record IsPassed (s : State) (store : StoreFields) (deleted : Bool) (t o : ℕ) : Type 0 where
  pub none : listed_at s store deleted o t ≡ None
  pub absent : IsVisible s o t → version_of s o t ≡ Absent

-- This is listed of an object at a moment: the moment can be read, and the object is then what this tells.
pub record IsListedAt (s : State) (store : StoreFields) (deleted : Bool) (t o : ℕ) (listed : Listed) : Type 0 where
  pub object : listed.object ≡ o
  pub found : listed_at s store deleted o t ≡ Some listed
  pub visible : IsVisible s o t
  pub version : TellsVersion (version_of s o t) listed

-- This is listed next above an object: it is listed of the least object above it of which anything is.
pub record IsListedNext (s : State) (store : StoreFields) (deleted : Bool) (t after : ℕ) (listed : Listed) : Type 0 where
  pub above : after < listed.object
  pub here : IsListedAt s store deleted t listed.object listed
  pub least : (o : ℕ) → after < o → o < listed.object → IsPassed s store deleted t o

-- These are all that are listed above an object, by ascending number.
abbrev pub AreListedFrom : State → StoreFields → Bool → ℕ → ℕ → List Listed → Type 0
AreListedFrom s store deleted t after [] = (o : ℕ) → after < o → IsPassed s store deleted t o
AreListedFrom s store deleted t after (listed ∷ rows) = IsListedNext s store deleted t after listed × AreListedFrom s store deleted t listed.object rows
