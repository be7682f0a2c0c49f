-- One entry done again, or undone: a whole inode from a whole inode.
use Rattle.std.specs.Prelude.{ℕ, List, [], ◌∷◌, Option, Some, None, slice_set}
use Rattle.s4_types.specs.Pointer.{Place}
use Rattle.codec.specs.declared.inodes.Inode.{Inode}
use Rattle.codec.specs.declared.entries.Pair.{Pair}
use Rattle.codec.specs.declared.entries.Triple.{Triple}
use Rattle.codec.specs.Entry.{EntryFields}

-- pointers with the later pointer of each triple in its place
abbrev pub with_after : List Triple → List (Option Place) → List (Option Place)
with_after [] pointers = pointers
with_after (t ∷ triples) pointers = with_after triples (slice_set pointers t.index t.after)

-- pointers with the earlier pointer of each triple in its place
abbrev pub with_before : List Triple → List (Option Place) → List (Option Place)
with_before [] pointers = pointers
with_before (t ∷ triples) pointers = with_before triples (slice_set pointers t.index t.before)

-- the attribute after, or the one given where the entry tells none
abbrev pub attribute_after : Option Pair → List ℕ → List ℕ
attribute_after None attribute = attribute
attribute_after (Some p) attribute = p.after

-- the attribute before, or the one given where the entry tells none
abbrev pub attribute_before : Option Pair → List ℕ → List ℕ
attribute_before None attribute = attribute
attribute_before (Some p) attribute = p.before

-- the inode with all that the entry tells of the time after it
unfoldable pub redone : EntryFields → Inode → Inode
redone e i = record { alive = e.after.alive; size = e.after.size; created = i.created; changed = e.after.changed; attribute = attribute_after e.pair i.attribute; pointers = with_after e.triples i.pointers }

-- the inode with all that the entry tells of the time before it
unfoldable pub undone : EntryFields → Inode → Inode
undone e j = record { alive = e.before.alive; size = e.before.size; created = j.created; changed = e.before.changed; attribute = attribute_before e.pair j.attribute; pointers = with_before e.triples j.pointers }
