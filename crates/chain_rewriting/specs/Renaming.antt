-- What a move makes of an object's chain: pointers into one frame become the new places of the blocks that move.
use Rattle.std.specs.Prelude.{ℕ, zero, suc, ◌-◌, Bool, ◌==◌, ◌&&◌, if◌then◌else◌, List, replicate, slice_index_or, slice_set, Option, Some, None, unwrap_or}
use Rattle.s4_types.specs.Pointer.{Place}
use Rattle.s4_types.specs.declared.limits.TheConstants.{PAYLOAD_BLOCKS}
use Rattle.codec.specs.declared.inodes.Inode.{Inode}
use Rattle.codec.specs.declared.entries.Triple.{Triple}
use Rattle.codec.specs.Entry.{EntryFields}
use Rattle.chain_rewriting.specs.Mapping.{mapped_slot, mapped_triple, mapped_entry, mapped_entries, mapped_inode}

-- a frame at a generation, and for each of its blocks from 1 on the new place, where it moves
pub record RenamingFields : Type 0 where
  pub frame : ℕ
  pub generation : ℕ
  pub moves : List (Option Place)

-- no block moves yet
unfoldable pub no_moves : List (Option Place)
no_moves = replicate PAYLOAD_BLOCKS None

abbrev pub renaming_of : ℕ → ℕ → RenamingFields
renaming_of frame generation = record { frame = frame; generation = generation; moves = no_moves }

-- the renaming with a new place for a block
abbrev pub with_move : RenamingFields → ℕ → Place → RenamingFields
with_move r block to = record r { moves = slice_set r.moves (block - 1) (Some to) }

-- The new place of a block; none where it stays. Block 0, the summary, stays.
abbrev pub move_of : RenamingFields → ℕ → Option Place
move_of r zero = None
move_of r (suc n) = slice_index_or r.moves n None

-- the place is in the frame at that generation
abbrev pub is_in : RenamingFields → Place → Bool
is_in r p = p.frame == r.frame && p.generation == r.generation

-- where the block at a place moves to; none where it stays
abbrev pub new_place : RenamingFields → Place → Option Place
new_place r p = if is_in r p then move_of r p.block else None

-- a place, with the new one for one that moves
abbrev pub renamed : RenamingFields → Place → Place
renamed r p = unwrap_or (new_place r p) p

-- a hole stays a hole
abbrev pub renamed_slot : RenamingFields → Option Place → Option Place
renamed_slot r = mapped_slot (renamed r)

-- both sides of a triple
abbrev pub renamed_triple : RenamingFields → Triple → Triple
renamed_triple r = mapped_triple (renamed r)

-- an entry with its triples renamed; all else stays
abbrev pub renamed_entry : RenamingFields → EntryFields → EntryFields
renamed_entry r = mapped_entry (renamed r)

abbrev pub renamed_entries : RenamingFields → List EntryFields → List EntryFields
renamed_entries r = mapped_entries (renamed r)

-- an inode with its pointers renamed; all else stays
abbrev pub renamed_inode : RenamingFields → Inode → Inode
renamed_inode r = mapped_inode (renamed r)
