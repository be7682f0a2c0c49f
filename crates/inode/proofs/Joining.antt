-- The bytes of an inode are its blocks joined.
use Rattle.std.proofs.Common.{◌≡◌, ℕ, suc, ◌+◌, ◌*◌, List, [], ◌∷◌, ◌++◌, length, get_or, take, Option, Some, None, refl, ap, sym, ◌∙◌, arith}
use Rattle.std.proofs.lemmas.List.{get_or-take, length-take}
use Rattle.std.specs.List.{flat_map}
use Rattle.s4_types.specs.Pointer.{Place}
use Rattle.codec.specs.Checkpoint.{pointer_at}
use Rattle.codec.specs.declared.inodes.Inode.{Inode}
use Rattle.codec.specs.Fields.{zeros}
use Rattle.inode.specs.Contents.{listed, byte_in, byte_of}
use Rattle.inode.specs.Laws.{slot_bytes, BlocksJoinedAndCut}
use Rattle.inode.proofs.Listing.{listed-is, listed-at, listed-join, listed-length}
use Rattle.inode.proofs.Bytes.{bytes_of_slot, bytes_of_hole, block_of-slot}

slot_is : (contents : Place → List ℕ) (slot : Option Place) → ((p : Place) → slot ≡ Some p → length (contents p) ≡ 512) → slot_bytes contents slot ≡ listed (byte_in contents slot) 0 512
unfolding slot_bytes
slot_is contents None sizes = bytes_of_hole contents None (zeros 512) refl refl
slot_is contents (Some p) sizes = bytes_of_slot contents (Some p) p (contents p) refl refl (sizes p refl)

joined : (contents : Place → List ℕ) (i : Inode) (pointers : List (Option Place)) (k : ℕ) → ((n : ℕ) → get_or pointers n None ≡ pointer_at i (k + n)) → ((n : ℕ) (p : Place) → pointer_at i n ≡ Some p → length (contents p) ≡ 512)
    → flat_map (slot_bytes contents) pointers ≡ listed (byte_of contents i) (512 * k) (512 * length pointers)
joined contents i [] k each sizes = listed-is (byte_of contents i) (512 * k) 0 [] refl (λ n lt. absurd (omega arith))
joined contents i (slot ∷ pointers) k each sizes =
    let here : slot ≡ pointer_at i k = each 0 ∙ ap (pointer_at i) (omega arith) in
    let rest : flat_map (slot_bytes contents) pointers ≡ listed (byte_of contents i) (512 * (k + 1)) (512 * length pointers) = joined contents i pointers (k + 1) (λ n. each (suc n) ∙ ap (pointer_at i) (omega arith)) sizes in
    ap (λ l. slot_bytes contents slot ++ l) rest
    ∙ ap (λ l. l ++ listed (byte_of contents i) (512 * (k + 1)) (512 * length pointers)) (slot_is contents slot (λ p e. sizes k p (sym here ∙ e)) ∙ ap (λ s. listed (byte_in contents s) 0 512) here ∙ block_of-slot contents i k)
    ∙ listed-join (byte_of contents i) (512 * k) 512 (512 * (k + 1)) (512 * length pointers) (omega arith)
    ∙ ap (listed (byte_of contents i) (512 * k)) (omega arith)

pub joined_and_cut : BlocksJoinedAndCut
joined_and_cut contents i le sizes =
    let all : flat_map (slot_bytes contents) i.pointers ≡ listed (byte_of contents i) (512 * 0) (512 * length i.pointers) = joined contents i i.pointers 0 (λ n. ap (pointer_at i) (omega arith)) sizes in
    let len : length (listed (byte_of contents i) (512 * 0) (512 * length i.pointers)) ≡ 512 * length i.pointers = listed-length (byte_of contents i) (512 * 0) (512 * length i.pointers) in
    sym (ap (take i.size) all ∙ listed-is (byte_of contents i) 0 i.size (take i.size (listed (byte_of contents i) (512 * 0) (512 * length i.pointers)))
    (length-take i.size (listed (byte_of contents i) (512 * 0) (512 * length i.pointers)) ∙ omega arith)
    (λ n lt. get_or-take i.size (listed (byte_of contents i) (512 * 0) (512 * length i.pointers)) n 0 lt ∙ listed-at (byte_of contents i) (512 * 0) (512 * length i.pointers) n (0 + n) 0 (omega arith) (omega arith)))
