-- The places of data that an object still has, in the order in which they are copied.
use Rattle.std.specs.Prelude.{◌≡◌, ◌⊎◌, ◌<◌, Bool, nat_lt, ◌==◌, if◌then◌else◌, List, [], ◌∷◌, ◌++◌, Option, Some, None}
use Rattle.std.specs.List.{AllByRecursion}
use Rattle.s4_types.specs.Pointer.{Place}
use Rattle.block_log.specs.Log.{same_place}
use Rattle.codec.specs.declared.inodes.Inode.{Inode}
use Rattle.codec.specs.Entry.{EntryFields}
use Rattle.version_store.specs.Store.{sides_told}

-- one place comes before another: by its frame, then by its block, and then by its generation
abbrev pub is_before : Place → Place → Bool
is_before p q = if p.frame == q.frame then (if p.block == q.block then nat_lt p.generation q.generation else nat_lt p.block q.block) else nat_lt p.frame q.frame

-- places in order, with one more where it isn't among them
abbrev pub put_place : Place → List Place → List Place
put_place p [] = p ∷ []
put_place p (q ∷ places) = if is_before q p then q ∷ put_place p places else (if same_place q p then q ∷ places else p ∷ q ∷ places)

-- places in order, with those of these pointers that aren't holes
abbrev pub with_places : List Place → List (Option Place) → List Place
with_places places [] = places
with_places places (None ∷ slots) = with_places places slots
with_places places (Some p ∷ slots) = with_places (put_place p places) slots

-- the pointers of an inode, if there is one
abbrev pub pointers_in : Option Inode → List (Option Place)
pointers_in None = []
pointers_in (Some i) = i.pointers

-- All pointers to data of an object with this inode in its checkpoint, if there is one, and these entries, holes among them.
abbrev pub data_pointers : Option Inode → List EntryFields → List (Option Place)
data_pointers kept entries = pointers_in kept ++ sides_told entries

-- the places of its data, each once and in order
abbrev pub data_places : Option Inode → List EntryFields → List Place
data_places kept entries = with_places [] (data_pointers kept entries)

-- ---- what this comes to

-- One place is before another: its frame is, or of one frame its block is, or of one block its generation is.
abbrev pub Before : Place → Place → Type 0
Before p q = (p.frame < q.frame) ⊎ ((p.frame ≡ q.frame) × ((p.block < q.block) ⊎ ((p.block ≡ q.block) × (p.generation < q.generation))))

-- places ascend strictly, so that none is listed twice
abbrev pub Ascend : List Place → Type 0
Ascend [] = Unit {0}
Ascend (p ∷ places) = AllByRecursion (Before p) places × Ascend places
