-- An inode, and a checkpoint of it.
use Rattle.std.specs.Prelude.{◌≡◌, ℕ, ◌-◌, ◌^◌, ◌<◌, ◌≤◌, Bool, true, List, [], ◌∷◌, length, slice_index_or, replicate, Option, None, IfSome, is_none, nat_lt, nat_le, ◌&&◌, ◌||◌}
use Rattle.std.specs.List.{AllByRecursion}
use Rattle.s4_types.specs.Pointer.{Place, IsPlace}
use Rattle.s4_types.specs.declared.limits.TheConstants.{OBJECT_BYTES, OBJECT_BLOCKS}
use Rattle.codec.specs.Fields.{kept}
use Rattle.codec.specs.declared.inodes.Inode.{Inode}

-- the pointer of that index, or a hole
abbrev pub pointer_at : Inode → ℕ → Option Place
pointer_at i n = slice_index_or i.pointers n None

-- this many holes
unfoldable pub holes : ℕ → List (Option Place)
holes count = replicate count None

-- an object, a moment, and the object's inode after all changes up to the moment
pub record CheckpointFields : Type 0 where
  pub object : ℕ
  pub moment : ℕ
  pub inode : Inode

-- each pointer after the bytes of this size is a hole
unfoldable pub holes_past : ℕ → List (Option Place) → Bool
holes_past size [] = true
holes_past size (p ∷ pointers) = (nat_lt 0 size || is_none p) && holes_past (size - 512) pointers

-- the rules of a checkpoint
unfoldable pub checkpoint_rules : CheckpointFields → Bool
checkpoint_rules c =
    nat_le 1 c.object && (nat_le 1 c.moment && (nat_le 1 c.inode.created && (nat_le c.inode.size OBJECT_BYTES && holes_past c.inode.size c.inode.pointers)))

-- a pointer's numbers are in their ranges, or it is a hole
abbrev pub IsSlot : Option Place → Type 0
IsSlot p = IfSome p IsPlace

-- the numbers of an inode are in their ranges
pub record InodeNumbers (i : Inode) : Type 0 where
  pub size : i.size < 2 ^ 32
  pub created : i.created < 2 ^ 64
  pub changed : i.changed < 2 ^ 64
  pub attribute : length i.attribute ≤ 64
  pub count : length i.pointers ≡ OBJECT_BLOCKS
  pub pointers : AllByRecursion IsSlot i.pointers

-- the numbers of a checkpoint are in their ranges
pub record CheckpointNumbers (c : CheckpointFields) : Type 0 where
  pub object : c.object < 2 ^ 64
  pub moment : c.moment < 2 ^ 64
  pub inode : InodeNumbers c.inode

-- a checkpoint that keeps the rules
abbrev pub checked : CheckpointFields → Option CheckpointFields
checked c = kept (checkpoint_rules c) c
