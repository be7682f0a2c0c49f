-- What the entries of a journal tell of an object's changes.
use Rattle.std.specs.Prelude.{◌≡◌, ◌⊎◌, ⊤, ℕ, ◌<◌, ◌==◌, ◌&&◌, not, nat_lt, nat_le, if◌then◌else◌, Bool, true, List, [], ◌∷◌, length, map, filter, Option, Some, None, is_some}
use Rattle.s4_model.specs.State.{State}
use Rattle.s4_types.specs.declared.limits.TheConstants.{OBJECT_BLOCKS}
use Rattle.codec.specs.Checkpoint.{pointer_at}
use Rattle.codec.specs.declared.inodes.Inode.{Inode}
use Rattle.codec.specs.Entry.{EntryFields, entry_rules}
use Rattle.undo_redo.specs.Linked.{Linked}
use Rattle.codec.specs.declared.entries.Triple.{Triple}
use Rattle.version_store.specs.Store.{StoreFields}
use Rattle.version_store.specs.Versions.{entries_of_object}
use Rattle.history_view.specs.Listing.{is_visible}
use Rattle.history_view.specs.declared.changes.Kind.{Kind}
use Rattle.history_view.specs.declared.changes.Kind.TheVariants as kind
use Rattle.history_view.specs.declared.changes.Blocks.{Blocks}
use Rattle.history_view.specs.declared.changes.ObjectChange.{ObjectChange}

-- What an entry tells was done. An entry of the moment at which its object was changed before goes on with what the entry in front of it
-- began.
abbrev pub kind_of : EntryFields → Kind
kind_of e =
    if not e.before.alive then kind.Made else
    (if not e.after.alive then kind.Deleted else
    (if e.before.changed == e.moment then kind.Continued else
    (if is_some e.pair then kind.Attribute else
    (if nat_lt e.after.size e.before.size then kind.Cut else
    (if not (length e.triples == 0) then kind.Written else
    (if nat_lt e.before.size e.after.size then kind.Lengthened else kind.Touched))))))

-- the index of the last of these pointers; the one given where there is none
abbrev pub last_index : ℕ → List Triple → ℕ
last_index given [] = given
last_index given (t ∷ triples) = last_index t.index triples

-- the first and the last block whose pointers an entry tells; none where it tells no pointer
abbrev pub blocks_of : List Triple → Option Blocks
blocks_of [] = None
blocks_of (t ∷ triples) = Some (record { first = t.index; last = last_index t.index triples })

-- the change that an entry tells
abbrev pub change_of : EntryFields → ObjectChange
change_of e = record { moment = e.moment; kind = kind_of e; size_before = e.before.size; size_after = e.after.size; blocks = blocks_of e.triples; pair = e.pair }

-- whether an entry is asked for: its moment of the object can be read, and is between the two
abbrev pub is_asked : State → ℕ → ℕ → ℕ → EntryFields → Bool
is_asked s o since until e = is_visible s o e.moment && (nat_le since e.moment && nat_le e.moment until)

-- the changes of an object between two moments, both included, which can be read: one for each entry, in order
abbrev pub changes_between : State → StoreFields → ℕ → ℕ → ℕ → List ObjectChange
changes_between s store o since until = map change_of (filter (is_asked s o since until) (entries_of_object store o))

-- ---- what this comes to: it holds of all entries, and is a clause of a function with an empty body

-- a block is none of those that a change tells
abbrev pub IsOutside : ℕ → Option Blocks → Type 0
IsOutside n None = ⊤
IsOutside n (Some blocks) = (n < blocks.first) ⊎ (blocks.last < n)

-- Of two inodes that an entry ties, all pointers are equal but those of the blocks that its change tells.
abbrev pub AllElseStays : Type 0
AllElseStays = (i j : Inode) (e : EntryFields) → Linked i e j → entry_rules e ≡ true → (n : ℕ) → n < OBJECT_BLOCKS → IsOutside n (change_of e).blocks → pointer_at j n ≡ pointer_at i n

-- The sizes that a change tells are those of the two.
abbrev pub SizesAreTold : Type 0
SizesAreTold = (i j : Inode) (e : EntryFields) → Linked i e j → ((change_of e).size_before ≡ i.size) × ((change_of e).size_after ≡ j.size)
