-- The bytes of an inode, one by one.
use Rattle.std.proofs.Common.{◌≡◌, ℕ, ◌+◌, ◌*◌, ◌/◌, ◌%◌, ◌<◌, List, length, get_or, replicate, Option, Some, None, inl, inr, refl, ap, sym, ◌∙◌, arith}
use Rattle.std.proofs.lemmas.Bool.{cases_lt}
use Rattle.std.proofs.lemmas.List.{length-replicate, get_or-replicate, get_or_default}
use Rattle.s4_types.specs.Pointer.{Place}
use Rattle.codec.specs.Checkpoint.{pointer_at}
use Rattle.codec.specs.declared.inodes.Inode.{Inode}
use Rattle.codec.specs.Fields.{zeros}
use Rattle.inode.specs.Contents.{listed, byte_in, byte_of, bytes_of}
use Rattle.inode.specs.Changed.{block_of}
use Rattle.inode.specs.Tidiness.{Tidy}
use Rattle.inode.proofs.Listing.{listed-length, listed-at, listed-past, listed-same, listed-is}

pub bytes_of-length : (contents : Place → List ℕ) (i : Inode) → length (bytes_of contents i) ≡ i.size
bytes_of-length contents i = listed-length (byte_of contents i) 0 i.size

-- where an inode is tidy, the byte at a place is that of the list of its bytes
pub bytes_of-at : (contents : Place → List ℕ) (i : Inode) (n : ℕ) → Tidy contents i → get_or (bytes_of contents i) n 0 ≡ byte_of contents i n
bytes_of-at contents i n tidy =
    elim (cases_lt n i.size) [
      | inl below ↦ listed-at (byte_of contents i) 0 i.size n n 0 below (omega arith)
      | inr past ↦ listed-past (byte_of contents i) 0 i.size n 0 past ∙ sym (tidy.zeros n past)
    ]

-- the byte at a place is in the block of its index
pub byte_of-in : (contents : Place → List ℕ) (i : Inode) (k n m : ℕ) → n < 512 → 512 * k + n ≡ m → byte_of contents i m ≡ byte_in contents (pointer_at i k) n
unfolding byte_of
byte_of-in contents i k n m lt e =
    let index : m / 512 ≡ k = omega arith in
    let rest : m % 512 ≡ n = omega arith in
    ap (λ q. byte_in contents (pointer_at i q) (m % 512)) index ∙ ap (λ r. byte_in contents (pointer_at i k) r) rest

-- a block's bytes are those of the inode at its places
pub block_of-slot : (contents : Place → List ℕ) (i : Inode) (k : ℕ) → listed (byte_in contents (pointer_at i k)) 0 512 ≡ block_of (byte_of contents i) k
block_of-slot contents i k =
    listed-same (byte_in contents (pointer_at i k)) (byte_of contents i) 0 (512 * k) 512
    (λ n lt. ap (byte_in contents (pointer_at i k)) (omega arith) ∙ sym (byte_of-in contents i k n (512 * k + n) lt refl))

zeros-listed : (count : ℕ) → zeros count ≡ listed (λ n. 0) 0 count
unfolding zeros
zeros-listed count = listed-is (λ n. 0) 0 count (replicate count 0) (length-replicate {A = ℕ} count 0) (λ i lt. get_or-replicate {A = ℕ} count i 0 0 lt)

-- a hole has zeros
pub bytes_of_hole : (contents : Place → List ℕ) (slot : Option Place) (bytes : List ℕ) → slot ≡ None → bytes ≡ zeros 512 → bytes ≡ listed (byte_in contents slot) 0 512
bytes_of_hole contents slot bytes e same =
    same ∙ zeros-listed 512 ∙ ap (λ s. listed (byte_in contents s) 0 512) (sym e)

-- the bytes of the block that a pointer refers to, read whole
pub bytes_of_slot : (contents : Place → List ℕ) (slot : Option Place) (p : Place) (bytes : List ℕ) → slot ≡ Some p → bytes ≡ contents p → length bytes ≡ 512 → bytes ≡ listed (byte_in contents slot) 0 512
bytes_of_slot contents slot p bytes e same len =
    listed-is (byte_in contents slot) 0 512 bytes len (λ i lt. let start : i ≡ 0 + i = omega arith in ap (λ l. get_or l i 0) same ∙ sym (ap (λ s. byte_in contents s i) e) ∙ ap (byte_in contents slot) start)

pub bytes_of_block : (contents : Place → List ℕ) (i : Inode) (k : ℕ) (slot d : Option Place) (bytes : List ℕ) → k < length i.pointers → slot ≡ get_or i.pointers k d → bytes ≡ listed (byte_in contents slot) 0 512 → bytes ≡ block_of (byte_of contents i) k
bytes_of_block contents i k slot d bytes lt e same =
    same ∙ ap (λ s. listed (byte_in contents s) 0 512) (e ∙ get_or_default i.pointers k d None lt) ∙ block_of-slot contents i k
