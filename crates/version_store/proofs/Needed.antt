-- What a read of bytes needs of an inode: its size, and its pointers to the blocks that have one of them.
use Rattle.std.proofs.Common.{◌≡◌, ℕ, ◌+◌, ◌-◌, ◌/◌, ◌%◌, ◌<◌, ◌≤◌, min, List, length, map, take, drop, Option, inl, inr, refl, sym, ap, subst, ◌∙◌, arith}
use Rattle.std.specs.List.{range_with_len}
use Rattle.std.proofs.lemmas.Bool.{cases_lt}
use Rattle.std.proofs.lemmas.List.{ext_get_or}
use Rattle.std.proofs.lemmas.List.FromFn.{length-map-range_with_len, get_or-map-range_with_len}
use Rattle.s4_types.specs.Pointer.{Place}
use Rattle.s4_types.specs.declared.limits.TheConstants.{OBJECT_BYTES}
use Rattle.codec.specs.Checkpoint.{pointer_at}
use Rattle.codec.specs.declared.inodes.Inode.{Inode}
use Rattle.inode.specs.Contents.{byte_in, byte_of, bytes_of, listed}
use Rattle.inode.specs.Touched.{touched_count}
use Rattle.inode.proofs.Ranges.{equal_ranges, from_an_offset}
use Rattle.inode.proofs.Touching.{touched_none, touched_by_bytes, is_touched-from}
use Rattle.segment_table.specs.Table.{Table}
use Rattle.time_read.specs.Plans.{Piece, Hole, piece_of, pieces_of}
use Rattle.time_read.specs.Within.{IsIn, AgreesWithin}
use Rattle.time_read.specs.declared.block_ranges.BlockRange.{BlockRange}

-- a range has the block of each byte of a read
abbrev pub Covers : BlockRange → ℕ → ℕ → Type 0
Covers range offset wanted = (n : ℕ) → offset ≤ n → n < offset + wanted → n < OBJECT_BYTES → IsIn range (n / 512)

byte_agrees : (contents : Place → List ℕ) (range : BlockRange) (i j : Inode) (n : ℕ) → AgreesWithin range i j → IsIn range (n / 512) → byte_of contents i n ≡ byte_of contents j n
unfolding byte_of
byte_agrees contents range i j n agrees inside = ap (λ (p : Option Place). byte_in contents p (n % 512)) (agrees.pointers (n / 512) inside)

pub bytes_agree : (contents : Place → List ℕ) (range : BlockRange) (i j : Inode) (offset wanted : ℕ) → i.size ≤ OBJECT_BYTES → Covers range offset wanted → AgreesWithin range i j
    → take wanted (drop offset (bytes_of contents i)) ≡ take wanted (drop offset (bytes_of contents j))
bytes_agree contents range i j offset wanted small covers agrees =
    sym (from_an_offset contents i offset wanted)
    ∙ equal_ranges (byte_of contents i) (byte_of contents j) offset offset (min wanted (i.size - offset))
    (λ n lt. byte_agrees contents range i j (offset + n) agrees (covers (offset + n) (omega arith) (omega (arith, lt)) (omega (arith, lt, small))))
    ∙ ap (λ (size : ℕ). listed (byte_of contents j) offset (min wanted (size - offset))) agrees.size
    ∙ from_an_offset contents j offset wanted

mapped_same : (f g : ℕ → Piece) (first count : ℕ) → ((n : ℕ) → n < count → f (first + n) ≡ g (first + n)) → map f (range_with_len first count) ≡ map g (range_with_len first count)
mapped_same f g first count same =
    let long : length (map f (range_with_len first count)) ≡ count = length-map-range_with_len f first count in
    ext_get_or Hole (map f (range_with_len first count)) (map g (range_with_len first count)) (long ∙ sym (length-map-range_with_len g first count))
    (λ n lt. get_or-map-range_with_len f first count n (first + n) Hole (omega (arith, lt, long)) refl ∙ same n (omega (arith, lt, long)) ∙ sym (get_or-map-range_with_len g first count n (first + n) Hole (omega (arith, lt, long)) refl))

piece_agrees : (t : Table) (range : BlockRange) (i j : Inode) (offset wanted count n : ℕ) → Covers range offset wanted → AgreesWithin range i j → count ≤ wanted → offset + count ≤ OBJECT_BYTES → n < touched_count offset count
    → piece_of t (pointer_at i (offset / 512 + n)) ≡ piece_of t (pointer_at j (offset / 512 + n))
piece_agrees t range i j offset wanted count n covers agrees few within lt =
    let byte = (touched_by_bytes offset count (offset / 512 + n)).0 (is_touched-from offset count (offset / 512 + n) (omega arith) (omega (arith, lt))) in
    let inside = covers byte.0 byte.1 (omega (arith, byte.2, few)) (omega (arith, byte.2, within)) in
    ap (λ (p : Option Place). piece_of t p) (agrees.pointers (offset / 512 + n) (subst (λ (k : ℕ). IsIn range k) byte.3 inside))

each_agrees : (t : Table) (range : BlockRange) (i j : Inode) (offset wanted count n : ℕ) → count ≡ min wanted (i.size - offset) → i.size ≤ OBJECT_BYTES → Covers range offset wanted → AgreesWithin range i j → n < touched_count offset count
    → piece_of t (pointer_at i (offset / 512 + n)) ≡ piece_of t (pointer_at j (offset / 512 + n))
each_agrees t range i j offset wanted count n is small covers agrees lt = elim (cases_lt offset i.size) [
  | inl there ↦ piece_agrees t range i j offset wanted count n covers agrees (omega (arith, is)) (omega (arith, is, there, small)) lt
  | inr past ↦ let none = touched_none offset count (omega (arith, is, past)) in absurd (omega (arith, lt, none))
]

pub pieces_agree : (t : Table) (range : BlockRange) (i j : Inode) (offset wanted : ℕ) → i.size ≤ OBJECT_BYTES → Covers range offset wanted → AgreesWithin range i j
    → pieces_of t i offset (min wanted (i.size - offset)) ≡ pieces_of t j offset (min wanted (j.size - offset))
pieces_agree t range i j offset wanted small covers agrees =
    mapped_same (λ (k : ℕ). piece_of t (pointer_at i k)) (λ (k : ℕ). piece_of t (pointer_at j k)) (offset / 512) (touched_count offset (min wanted (i.size - offset)))
    (λ n lt. each_agrees t range i j offset wanted (min wanted (i.size - offset)) n refl small covers agrees lt)
    ∙ ap (λ (size : ℕ). pieces_of t j offset (min wanted (size - offset))) agrees.size
