-- The rows that are found in bytes by themselves, where no header says where they are.
use Rattle.std.specs.Prelude.{◌≡◌, ◌↔◌, ℕ, ◌+◌, ◌<◌, ◌≤◌, List, [], ◌∷◌, length, map, drop, Option}
use Rattle.std.specs.List.{Contains}
use Rattle.s4_types.specs.Pointer.{Place}
use Rattle.block_log.specs.Log.{Stored}
use Rattle.codec.specs.declared.inodes.Inode.{Inode}
use Rattle.image_parts.specs.Rows.{row_in}
use Rattle.image_parts.specs.declared.rows.RowPart.{RowPart}
use Rattle.image_salvage.specs.Searching.{IsWithin, AreFound, AreFoundTo}
use Rattle.image_salvage.specs.Rows.{IsPresentOf}

-- what the bytes at a place are as a row
abbrev pub row_from : List ℕ → ℕ → RowPart
row_from bytes place = row_in (drop place bytes)

-- The 40 bytes at a place are a row whose version chain is over these used blocks.
pub record LeadsAt (used : Place → Option Stored) (bytes : List ℕ) (place : ℕ) : Type 0 where
  pub inside : place + 40 ≤ length bytes
  pub inode : Inode
  pub present : IsPresentOf used (row_from bytes place) inode

-- They are that, and the place is in no frame that was found.
pub record IsRowAt (used : Place → Option Stored) (bytes : List ℕ) (frames : List ℕ) (place : ℕ) : Type 0 where
  pub outside : IsWithin frames place → ⊥
  pub leads : LeadsAt used bytes place

-- these ascend, from the first to below the end
abbrev pub AscendBelow : ℕ → ℕ → List ℕ → Type 0
AscendBelow first end [] = first ≤ end
AscendBelow first end (p ∷ places) = (first ≤ p) × AscendBelow (p + 1) end places

-- These are the places of all rows that are found below n, ascending.
pub record AreRowsTo (used : Place → Option Stored) (bytes : List ℕ) (frames : List ℕ) (n : ℕ) (places : List ℕ) : Type 0 where
  pub all : (p : ℕ) → Contains places p ↔ ((p < n) × IsRowAt used bytes frames p)
  pub ascend : AscendBelow 0 n places

-- These are all rows that are found in bytes, in their order: at whatever place outside of the frames that are found one gives its object.
pub record FindsRows (used : Place → Option Stored) (bytes : List ℕ) (rows : List RowPart) : Type 0 where
  pub frames : List ℕ
  pub found : AreFound bytes frames
  pub places : List ℕ
  pub are : AreRowsTo used bytes frames (length bytes) places
  pub rows_are : rows ≡ map (row_from bytes) places

-- as far as the places below n were looked at
pub record FindsRowsTo (used : Place → Option Stored) (bytes : List ℕ) (n next : ℕ) (rows : List RowPart) : Type 0 where
  pub frames : List ℕ
  pub found : AreFoundTo bytes n next frames
  pub places : List ℕ
  pub are : AreRowsTo used bytes frames n places
  pub rows_are : rows ≡ map (row_from bytes) places
