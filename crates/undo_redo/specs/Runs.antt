-- Runs: inodes tied one to the next by entries, oldest first; and the inode that is current at a moment.
use Rattle.std.specs.Prelude.{◌≡◌, ℕ, Bool, true, false, not, nat_le, ◌&&◌, List, [], ◌∷◌}
use Rattle.std.specs.List.{filter, AllByRecursion}
use Rattle.s4_types.specs.declared.limits.TheConstants.{OBJECT_BLOCKS}
use Rattle.codec.specs.declared.inodes.Inode.{Inode}
use Rattle.codec.specs.Entry.{EntryFields}
use Rattle.codec.specs.Checkpoint.{holes}
use Rattle.undo_redo.specs.Linked.{Linked}
use Rattle.undo_redo.specs.Redone.{redone, undone}

-- There are inodes from the first to the last, neighbours linked by the entries.
abbrev pub Run : Inode → List EntryFields → Inode → Type 0
Run i [] j = i ≡ j
Run i (e ∷ entries) j = (k : Inode) × Linked i e k × Run k entries j

-- all entries done again, in order
abbrev pub redone_all : List EntryFields → Inode → Inode
redone_all [] i = i
redone_all (e ∷ entries) i = redone_all entries (redone e i)

-- all entries undone, the last one first
abbrev pub undone_all : List EntryFields → Inode → Inode
undone_all [] j = j
undone_all (e ∷ entries) j = undone e (undone_all entries j)

-- the entry's moment is this one or earlier
abbrev pub entry_is_by : ℕ → EntryFields → Bool
entry_is_by t e = nat_le e.moment t

-- the entries with moment at most t, in order
abbrev pub entries_by : ℕ → List EntryFields → List EntryFields
entries_by t entries = filter (entry_is_by t) entries

-- the entries with a later moment, in order
abbrev pub entries_past : ℕ → List EntryFields → List EntryFields
entries_past t entries = filter (λ e. not (entry_is_by t e)) entries

-- The inode that is current at a moment: from the start on, all entries with moment at most t done in order.
abbrev pub inode_after : Inode → List EntryFields → ℕ → Inode
inode_after start entries t = redone_all (entries_by t entries) start

-- each entry's moment is at most t
abbrev pub AllBy : ℕ → List EntryFields → Type 0
AllBy t entries = AllByRecursion (λ e. entry_is_by t e ≡ true) entries

-- each entry's moment is later than t
abbrev pub AllPast : ℕ → List EntryFields → Type 0
AllPast t entries = AllByRecursion (λ e. entry_is_by t e ≡ false) entries

-- each entry is of this moment
abbrev pub AllAt : ℕ → List EntryFields → Type 0
AllAt m entries = AllByRecursion (λ e. e.moment ≡ m) entries

-- the moments don't descend, from this one on
abbrev pub moments_ascend_from : ℕ → List EntryFields → Bool
moments_ascend_from low [] = true
moments_ascend_from low (e ∷ entries) = nat_le low e.moment && moments_ascend_from e.moment entries

-- the moment of the last entry, or the one given where there is none
abbrev pub last_moment : ℕ → List EntryFields → ℕ
last_moment given [] = given
last_moment given (e ∷ entries) = last_moment e.moment entries

-- the inode before its object is made: dead, with the moment of its making alone
unfoldable pub blank : ℕ → Inode
blank created = record { alive = false; size = 0; created = created; changed = 0; attribute = []; pointers = holes OBJECT_BLOCKS }

-- The first and the last inode of a run, as its entries alone tell them: what none of them tells is blank.
abbrev pub told_first : List EntryFields → Inode
told_first entries = undone_all entries (blank 0)

abbrev pub told_last : List EntryFields → Inode
told_last entries = redone_all entries (told_first entries)
