-- What a map from places to places makes of an object's chain: each pointer refers to the place to which its own is mapped.
use Rattle.std.specs.Prelude.{◌≡◌, ℕ, List, map, Option, option_map}
use Rattle.s4_types.specs.Pointer.{Place}
use Rattle.codec.specs.declared.inodes.Inode.{Inode}
use Rattle.codec.specs.declared.entries.Triple.{Triple}
use Rattle.codec.specs.Checkpoint.{CheckpointFields}
use Rattle.codec.specs.Entry.{EntryFields}

-- a hole stays a hole
abbrev pub mapped_slot : (Place → Place) → Option Place → Option Place
mapped_slot f slot = option_map f slot

-- both sides of a triple
abbrev pub mapped_triple : (Place → Place) → Triple → Triple
mapped_triple f t = record t { before = mapped_slot f t.before; after = mapped_slot f t.after }

-- an entry with its triples mapped; all else stays
abbrev pub mapped_entry : (Place → Place) → EntryFields → EntryFields
mapped_entry f e = record e { triples = map (mapped_triple f) e.triples }

abbrev pub mapped_entries : (Place → Place) → List EntryFields → List EntryFields
mapped_entries f entries = map (mapped_entry f) entries

-- an inode with its pointers mapped; all else stays
abbrev pub mapped_inode : (Place → Place) → Inode → Inode
mapped_inode f i = record i { pointers = map (mapped_slot f) i.pointers }

-- a checkpoint of the mapped inode, of the same object and moment
abbrev pub mapped_checkpoint : (Place → Place) → CheckpointFields → CheckpointFields
mapped_checkpoint f c = record c { inode = mapped_inode f c.inode }

-- no two places of this kind are mapped to one
abbrev pub IsOneToOne : (Place → Type 0) → (Place → Place) → Type 0
IsOneToOne Is f = (p q : Place) → Is p → Is q → f p ≡ f q → p ≡ q

-- each place of the first kind is mapped to one of the second
abbrev pub MapsWithin : (Place → Type 0) → (Place → Type 0) → (Place → Place) → Type 0
MapsWithin Was Is f = (p : Place) → Was p → Is (f p)

-- at the place to which one of this kind is mapped are the bytes that were there
abbrev pub KeepsContents : (Place → Type 0) → (Place → Place) → (Place → List ℕ) → (Place → List ℕ) → Type 0
KeepsContents Is f contents others = (p : Place) → Is p → others (f p) ≡ contents p
