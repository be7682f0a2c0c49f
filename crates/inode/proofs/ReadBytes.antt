-- The bytes of a read, piece by piece.
use Rattle.std.proofs.Common.{◌≡◌, ℕ, ◌+◌, ◌-◌, ◌*◌, ◌/◌, ◌<◌, ◌≤◌, min, List, [], ◌++◌, length, take, drop, get_or, replicate, Option, None, Some, IsSome, IfSome, refl, ap, sym, ◌∙◌, arith, take_all, length-append}
use Rattle.std.proofs.lemmas.List.{get_or-take, get_or-drop, length-take, length-drop, length-replicate, get_or-replicate, get_or_default}
use Rattle.s4_types.specs.Pointer.{Place}
use Rattle.block_log.specs.Log.{Stored}
use Rattle.codec.specs.Checkpoint.{pointer_at}
use Rattle.codec.specs.declared.inodes.Inode.{Inode}
use Rattle.inode.specs.Contents.{bytes_stored, contents_of, byte_in, listed, byte_of, bytes_of}
use Rattle.inode.proofs.Bytes.{byte_of-in}
use Rattle.inode.proofs.Listing.{listed-length, listed-at, listed-is, listed-same, listed-join}

pub slot_is : (i : Inode) (k : ℕ) (slot d : Option Place) → k < length i.pointers → slot ≡ get_or i.pointers k d → slot ≡ pointer_at i k
slot_is i k slot d lt e = e ∙ get_or_default i.pointers k d None lt

-- this many bytes of a block that is held at a place
stored_part : (contents : Place → List ℕ) (p : Place) (o : Option Stored) (old new : List ℕ) (from count : ℕ) → contents p ≡ bytes_stored o → IsSome o → IfSome o (λ block. new ≡ old ++ take count (drop from block.bytes)) → length new ≡ length old + count → new ≡ old ++ listed (byte_in contents (Some p)) from count
stored_part contents p None old new from count same some h added = absurd (cc)
stored_part contents p (Some block) old new from count same some h added =
    let part : List ℕ = take count (drop from block.bytes) in
    let len : length new ≡ length old + length part = ap (length {A = ℕ}) h ∙ length-append old part in
    h ∙ ap (λ l. old ++ l) (listed-is (byte_in contents (Some p)) from count part (omega (arith, len, added))
    (λ i lt. get_or-take count (drop from block.bytes) i 0 lt ∙ get_or-drop from block.bytes i 0 ∙ ap (λ l. get_or l (from + i) 0) (sym same)))

-- bytes of the block that a pointer refers to were added
pub block_added : (held : Place → Option Stored) (slot : Option Place) (p : Place) (old new : List ℕ) (from count : ℕ) → slot ≡ Some p → IsSome (held p) → IfSome (held p) (λ block. new ≡ old ++ take count (drop from block.bytes)) → length new ≡ length old + count → new ≡ old ++ listed (byte_in (contents_of held) slot) from count
block_added held slot p old new from count e some h added =
    stored_part (contents_of held) p (held p) old new from count refl some h added ∙ ap (λ s. old ++ listed (byte_in (contents_of held) s) from count) (sym e)

-- zeros were added for a hole
pub hole_added : (contents : Place → List ℕ) (slot : Option Place) (old new : List ℕ) (from count size more : ℕ) → slot ≡ None → size ≡ length old + count → more ≡ count → new ≡ take size old ++ replicate more 0 → new ≡ old ++ listed (byte_in contents slot) from count
hole_added contents slot old new from count size more e is_size is_more h =
    h
    ∙ ap (λ l. l ++ replicate more 0) (take_all size old (omega arith))
    ∙ ap (λ l. old ++ l) (listed-is (byte_in contents None) from count (replicate more 0) (length-replicate {A = ℕ} more 0 ∙ is_more) (λ i lt. get_or-replicate {A = ℕ} more i 0 0 (omega arith)))
    ∙ ap (λ s. old ++ listed (byte_in contents s) from count) (sym e)

-- a part of a block is one of the inode
pub piece_added : (contents : Place → List ℕ) (i : Inode) (slot : Option Place) (old new : List ℕ) (index at next skip count : ℕ) → slot ≡ pointer_at i index → at / 512 ≡ index → at < next → next ≤ 512 * index + 512 → skip ≡ at - 512 * index → count ≡ next - at
    → new ≡ old ++ listed (byte_in contents slot) skip count → new ≡ old ++ listed (byte_of contents i) at (next - at)
piece_added contents i slot old new index at next skip count e is_index lt le is_skip is_count h =
    h
    ∙ ap (λ s. old ++ listed (byte_in contents s) skip count) e
    ∙ ap (λ l. old ++ l) (listed-same (byte_in contents (pointer_at i index)) (byte_of contents i) skip at count (λ n few. sym (byte_of-in contents i index (skip + n) (at + n) (omega arith) (omega arith))))
    ∙ ap (λ n. old ++ listed (byte_of contents i) at n) is_count

pub nothing_read : (f : ℕ → ℕ) (first count : ℕ) (xs : List ℕ) → xs ≡ [] → count ≡ 0 → xs ≡ listed f first count
nothing_read f first count xs e none = listed-is f first count xs (ap (length {A = ℕ}) e ∙ sym none) (λ i lt. absurd (omega arith))

pub more_read : (f : ℕ → ℕ) (first at next : ℕ) (xs more ys : List ℕ) → xs ≡ listed f first (at - first) → first ≤ at → at ≤ next → more ≡ listed f at (next - at) → ys ≡ xs ++ more → ys ≡ listed f first (next - first)
more_read f first at next xs more ys e low high is_more is_ys =
    is_ys ∙ ap (λ l. l ++ more) e ∙ ap (λ l. listed f first (at - first) ++ l) is_more ∙ listed-join f first (at - first) at (next - at) (omega arith) ∙ ap (listed f first) (omega arith)

-- the bytes from an offset on, up to a count or to the end
pub read_is : (contents : Place → List ℕ) (i : Inode) (offset len count : ℕ) (xs : List ℕ) → xs ≡ listed (byte_of contents i) offset count → count ≡ min len (i.size - offset) → xs ≡ take len (drop offset (bytes_of contents i))
read_is contents i offset len count xs e is_count =
    let all : length (bytes_of contents i) ≡ i.size = listed-length (byte_of contents i) 0 i.size in
    e ∙ sym (listed-is (byte_of contents i) offset count (take len (drop offset (bytes_of contents i)))
    (length-take len (drop offset (bytes_of contents i)) ∙ ap (min len) (length-drop offset (bytes_of contents i)) ∙ omega arith)
    (λ n lt.
    get_or-take len (drop offset (bytes_of contents i)) n 0 (omega arith)
    ∙ get_or-drop offset (bytes_of contents i) n 0
    ∙ listed-at (byte_of contents i) 0 i.size (offset + n) (offset + n) 0 (omega arith) (omega arith)))
