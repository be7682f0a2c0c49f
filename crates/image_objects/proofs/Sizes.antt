-- An inode's last block, and what lies behind it.
use Rattle.std.proofs.Common.{◌≡◌, ℕ, ◌+◌, ◌*◌, ◌/◌, ◌%◌, ◌≤◌, min, inl, inr, List, length, get_or, Option, Some, None, refl, sym, ap, ◌∙◌, arith}
use Rattle.std.proofs.lemmas.Bool.{cases_lt}
use Rattle.std.proofs.lemmas.List.{get_or_past}
use Rattle.s4_types.specs.declared.limits.TheConstants.{OBJECT_BLOCKS, OBJECT_BYTES}
use Rattle.s4_types.specs.Pointer.{Place}
use Rattle.block_log.specs.Log.{Stored}
use Rattle.codec.specs.declared.inodes.Inode.{Inode}
use Rattle.codec.specs.Checkpoint.{pointer_at}
use Rattle.inode.specs.Contents.{contents_of, bytes_stored, byte_in, byte_of}
use Rattle.inode.specs.Tidiness.{Tidy}
use Rattle.image_objects.specs.private.Ends.{EndsInZeros}

-- a place of the object is a byte of one of its blocks
byte_at_place : (contents : Place → List ℕ) (i : Inode) (n : ℕ) → byte_of contents i n ≡ byte_in contents (pointer_at i (n / 512)) (n % 512)
unfolding byte_of
byte_at_place contents i n = refl

no_byte : (contents : Place → List ℕ) (slot : Option Place) (n : ℕ) → slot ≡ None → byte_in contents slot n ≡ 0
no_byte contents slot n none = ap (λ (s : Option Place). byte_in contents s n) none

-- past the last slot all are holes
pub no_slot : (i : Inode) (k : ℕ) → length i.pointers ≡ OBJECT_BLOCKS → OBJECT_BLOCKS ≤ k → pointer_at i k ≡ None
no_slot i k count past = get_or_past i.pointers k None (omega (arith, count, past))

pub tidy_from : (contents : Place → List ℕ) (i : Inode) (from : ℕ) → from ≡ i.size / 512 + min 1 (i.size % 512) → length i.pointers ≡ OBJECT_BLOCKS → i.size ≤ OBJECT_BYTES → ((k : ℕ) → from ≤ k → pointer_at i k ≡ None) → EndsInZeros contents i → Tidy contents i
tidy_from contents i from is count size holes zeros =
    let none : (k : ℕ) → i.size ≤ 512 * k → pointer_at i k ≡ None = λ k le. holes k (omega (arith, is, le)) in
    record {
      count = count;
      size = size;
      holes = none;
      zeros = λ n le. byte_at_place contents i n ∙ (elim (cases_lt (i.size / 512) (n / 512)) [
        | inl past ↦ no_byte contents (pointer_at i (n / 512)) (n % 512) (none (n / 512) (omega (arith, past)))
        | inr by ↦ (let same : n / 512 ≡ i.size / 512 = omega (arith, by, le) in
            ap (λ k. byte_in contents (pointer_at i k) (n % 512)) same ∙ zeros (n % 512) (omega (arith, same, le)) (omega arith))
      ]);
    }

pub holes_of : (contents : Place → List ℕ) (i : Inode) (from : ℕ) → from ≡ i.size / 512 + min 1 (i.size % 512) → Tidy contents i → (k : ℕ) → from ≤ k → pointer_at i k ≡ None
holes_of contents i from is tidy k le = tidy.holes k (omega (arith, is, le))

pub zeros_of : (contents : Place → List ℕ) (i : Inode) → Tidy contents i → EndsInZeros contents i
zeros_of contents i tidy n from lt =
    let at : ℕ = 512 * (i.size / 512) + n in
    let block : at / 512 ≡ i.size / 512 = omega (arith, lt) in
    let byte : at % 512 ≡ n = omega (arith, lt) in
    ap (λ k. byte_in contents (pointer_at i k) n) (sym block) ∙ ap (λ k. byte_in contents (pointer_at i (at / 512)) k) (sym byte) ∙ sym (byte_at_place contents i at) ∙ tidy.zeros at (omega (arith, from))

-- the byte of a used block
pub slot_byte : (used : Place → Option Stored) (slot : Option Place) (p : Place) (block : Stored) (n : ℕ) → slot ≡ Some p → used p ≡ Some block → byte_in (contents_of used) slot n ≡ get_or block.bytes n 0
slot_byte used slot p block n is there = ap (λ (s : Option Place). byte_in (contents_of used) s n) is ∙ ap (λ (b : Option Stored). get_or (bytes_stored b) n 0) there
