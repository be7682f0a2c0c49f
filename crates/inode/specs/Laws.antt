-- What the definitions come to: each of these holds of all inodes and contents, and is the contract of a function with
-- an empty body.
use Rattle.std.specs.Prelude.{◌≡◌, ℕ, ◌+◌, ◌-◌, ◌*◌, ◌<◌, ◌≤◌, ◌↔◌, min, true, List, ◌++◌, length, take, drop, slice_index, Option, None, Some}
use Rattle.std.specs.List.{flat_map}
use Rattle.s4_types.specs.Pointer.{Place}
use Rattle.block_log.specs.Log.{Stored}
use Rattle.codec.specs.Checkpoint.{pointer_at}
use Rattle.codec.specs.declared.inodes.Inode.{Inode}
use Rattle.codec.specs.Fields.{zeros}
use Rattle.inode.specs.Contents.{listed, bytes_of, byte_of, meaning}
use Rattle.inode.specs.Tidiness.{Tidy, PointersHeld, PointersLead, AgreeAt}
use Rattle.inode.specs.Touched.{HasByteIn, is_touched}

-- an inode has as many bytes as its size tells
abbrev pub TheSizeCountsTheBytes : Type 0
TheSizeCountsTheBytes = (contents : Place → List ℕ) (i : Inode) → length (bytes_of contents i) ≡ i.size

-- where an inode is tidy, the byte at each place is that of its bytes, or 0 past their end
abbrev pub TheByteAtEachPlace : Type 0
TheByteAtEachPlace = (contents : Place → List ℕ) (i : Inode) (n : ℕ) → Tidy contents i → slice_index (bytes_of contents i) n ≡ byte_of contents i n

-- contents that agree wherever an inode's pointers lead give it the same meaning, and leave it tidy
abbrev pub OnlyItsBlocksMatter : Type 0
OnlyItsBlocksMatter = (contents others : Place → List ℕ) (i : Inode) → AgreeAt contents others i
    → (meaning others i ≡ meaning contents i) × (Tidy contents i → Tidy others i)

-- a data block of the object is a block
abbrev pub HeldPointersLead : Type 0
HeldPointersLead = (held : Place → Option Stored) (object : ℕ) (i : Inode) → PointersHeld held object i → PointersLead held i

-- the blocks that a write touches are those that have a byte of it
abbrev pub TouchedBlocksHaveAByte : Type 0
TouchedBlocksHaveAByte = (offset len k : ℕ) → (is_touched offset len k ≡ true) ↔ HasByteIn offset len k

-- the bytes of the block that a slot refers to; as many zeros for a hole
unfoldable pub slot_bytes : (Place → List ℕ) → Option Place → List ℕ
slot_bytes contents None = zeros 512
slot_bytes contents (Some p) = contents p

-- where each block has 512 bytes, an inode's bytes are its blocks joined by their index, holes as zeros, cut to the size
abbrev pub BlocksJoinedAndCut : Type 0
BlocksJoinedAndCut = (contents : Place → List ℕ) (i : Inode) → i.size ≤ 512 * length i.pointers → ((k : ℕ) (p : Place) → pointer_at i k ≡ Some p → length (contents p) ≡ 512)
    → bytes_of contents i ≡ take i.size (flat_map (slot_bytes contents) i.pointers)

-- two ranges of bytes in a row are one
abbrev pub RangesJoin : Type 0
RangesJoin = (f : ℕ → ℕ) (first count more : ℕ) → listed f first count ++ listed f (first + count) more ≡ listed f first (count + more)

-- a part of a range is a range
abbrev pub ARangeHasParts : Type 0
ARangeHasParts = (f : ℕ → ℕ) (first count skip n : ℕ) → skip + n ≤ count → take n (drop skip (listed f first count)) ≡ listed f (first + skip) n

-- a list is the range of bytes that has its length and its elements
abbrev pub AListIsARange : Type 0
AListIsARange = (f : ℕ → ℕ) (first count : ℕ) (bytes : List ℕ) → length bytes ≡ count → ((n : ℕ) → n < count → slice_index bytes n ≡ f (first + n)) → bytes ≡ listed f first count

-- two ranges with the same bytes are the same
abbrev pub EqualRanges : Type 0
EqualRanges = (f g : ℕ → ℕ) (first second count : ℕ) → ((n : ℕ) → n < count → f (first + n) ≡ g (second + n)) → listed f first count ≡ listed g second count

-- the bytes of an inode from an offset on, this many or as many as there are, are a range
abbrev pub BytesFromAnOffset : Type 0
BytesFromAnOffset = (contents : Place → List ℕ) (i : Inode) (offset len : ℕ) → listed (byte_of contents i) offset (min len (i.size - offset)) ≡ take len (drop offset (bytes_of contents i))
