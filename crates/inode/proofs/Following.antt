-- The bytes of an inode after blocks were appended for it.
use Rattle.std.proofs.Common.{◌≡◌, ℕ, ◌+◌, ◌*◌, ◌/◌, ◌%◌, ◌<◌, Bool, true, ◌&&◌, ◌==◌, cond, List, [], ◌∷◌, length, get_or, slice_get, Option, Some, None, IsSome, refl, ap, sym, ◌∙◌, subst, arith}
use Rattle.std.proofs.lemmas.Option.{slice_get-get_or, none-some}
use Rattle.std.proofs.lemmas.Bool.{and_from, eq-eqb}
use Rattle.std.proofs.lemmas.List.FromFn.{get_or-map-range_with_len}
use Rattle.s4_types.specs.Pointer.{Place}
use Rattle.block_log.specs.Log.{Log, Stored, of_kind, seen_as, same_kind}
use Rattle.block_log.specs.declared.kinds.BlockKind.TheVariants.{Data}
use Rattle.codec.specs.Checkpoint.{pointer_at}
use Rattle.codec.specs.declared.inodes.Inode.{Inode}
use Rattle.inode.specs.Contents.{byte_in, byte_of, contents_of, bytes_stored}
use Rattle.inode.specs.Tidiness.{PointersLead, PointersHeld}
use Rattle.inode.specs.Growth.{data_block, GrowsBy}
use Rattle.inode.specs.Changed.{block_of, listed_blocks}
use Rattle.inode.proofs.Listing.{listed-at}
use Rattle.inode.proofs.Frames.{kept-agree, byte_in-same, lead}
use Rattle.inode.proofs.Stepping.{listed_blocks-length}

pub listed_blocks-at : (bytes_at : ℕ → ℕ) (first count m k : ℕ) → m < count → first + m ≡ k → slice_get (listed_blocks bytes_at first count) m ≡ Some (block_of bytes_at k)
unfolding listed_blocks
listed_blocks-at bytes_at first count m k lt e =
    let all : length (listed_blocks bytes_at first count) ≡ count = listed_blocks-length bytes_at first count in
    slice_get-get_or (listed_blocks bytes_at first count) m (block_of bytes_at k) (omega arith) ∙ ap Some (get_or-map-range_with_len (block_of bytes_at) first count m k (block_of bytes_at k) lt e)

there : {X : Type 0} (xs : List X) (m : ℕ) (P : Type 0) → m < length xs → ((x : X) → slice_get xs m ≡ Some x → P) → (o : Option X) → slice_get xs m ≡ o → P
there xs m P lt f (Some x) e = f x e
there [] m P lt f None e = absurd (omega arith)
there (x ∷ xs) m P lt f None e = absurd (none-some (get_or (x ∷ xs) m x) (sym e ∙ slice_get-get_or (x ∷ xs) m x lt))

is_there : {X : Type 0} (xs : List X) (m : ℕ) (P : Type 0) → m < length xs → ((x : X) → slice_get xs m ≡ Some x → P) → P
is_there xs m P lt f = there xs m P lt f (slice_get xs m) refl

new_byte : (object : ℕ) (bytes_at : ℕ → ℕ) (first count : ℕ) (before after : Log) (k m n : ℕ) (p : Place) → GrowsBy object (listed_blocks bytes_at first count) before after
    → slice_get before.ahead m ≡ Some p → m < count → first + m ≡ k → n / 512 ≡ k → byte_in (contents_of after.held) (Some p) (n % 512) ≡ bytes_at n
new_byte object bytes_at first count before after k m n p grows at lt e index =
    let found : after.held p ≡ Some (data_block object (block_of bytes_at k)) = grows.taken m p (block_of bytes_at k) at (listed_blocks-at bytes_at first count m k lt e) in
    ap (λ b. get_or (bytes_stored b) (n % 512) 0) found ∙ listed-at bytes_at (512 * k) 512 (n % 512) n 0 (omega arith) (omega arith)

-- a byte in a block that was appended
pub byte_of-new : (object : ℕ) (bytes_at : ℕ → ℕ) (first count : ℕ) (before after : Log) (j : Inode) (k m n : ℕ) → GrowsBy object (listed_blocks bytes_at first count) before after
    → pointer_at j k ≡ slice_get before.ahead m → m < count → first + m ≡ k → n / 512 ≡ k → byte_of (contents_of after.held) j n ≡ bytes_at n
unfolding byte_of
byte_of-new object bytes_at first count before after j k m n grows points lt e index =
    let all : length (listed_blocks bytes_at first count) ≡ count = listed_blocks-length bytes_at first count in
    is_there before.ahead m (byte_of (contents_of after.held) j n ≡ bytes_at n) (omega (arith, grows.room))
    (λ p at.
    ap (λ q. byte_in (contents_of after.held) (pointer_at j q) (n % 512)) index
    ∙ ap (λ slot. byte_in (contents_of after.held) slot (n % 512)) (points ∙ at)
    ∙ new_byte object bytes_at first count before after k m n p grows at lt e index)

-- a byte in a block that is as it was
pub byte_of-old : (before after : Place → Option Stored) (i j : Inode) (n : ℕ) → ((p : Place) → IsSome (before p) → after p ≡ before p) → PointersLead before i
    → pointer_at j (n / 512) ≡ pointer_at i (n / 512) → byte_of (contents_of after) j n ≡ byte_of (contents_of before) i n
unfolding byte_of
byte_of-old before after i j n kept leads points =
    ap (λ slot. byte_in (contents_of after) slot (n % 512)) points
    ∙ byte_in-same (contents_of before) (contents_of after) (pointer_at i (n / 512)) (n % 512) (kept-agree before after i kept leads (n / 512))

cond_is_some : (b : Bool) (bytes : List ℕ) → b ≡ true → IsSome (cond b (Some bytes) None)
cond_is_some b bytes e = subst (λ t. IsSome (cond t (Some bytes) None)) (sym e) refl

seen_data : (object : ℕ) (bytes : List ℕ) → IsSome (seen_as Data object (Some (data_block object bytes)))
seen_data object bytes = cond_is_some (same_kind Data Data && object == object) bytes (and_from (same_kind Data Data) (object == object) refl (eq-eqb object object refl))

-- a place that was taken holds a data block of the object
pub held-new : (object : ℕ) (bytes_at : ℕ → ℕ) (first count : ℕ) (before after : Log) (m : ℕ) (p : Place) → GrowsBy object (listed_blocks bytes_at first count) before after
    → slice_get before.ahead m ≡ Some p → m < count → IsSome (of_kind Data object after.held p)
held-new object bytes_at first count before after m p grows at lt =
    subst (λ b. IsSome (seen_as Data object b)) (sym (grows.taken m p (block_of bytes_at (first + m)) at (listed_blocks-at bytes_at first count m (first + m) lt refl))) (seen_data object (block_of bytes_at (first + m)))

-- a data block of the object that was held still is one
pub held-old : (object : ℕ) (before after : Place → Option Stored) (i : Inode) (k : ℕ) (p : Place) → ((p : Place) → IsSome (before p) → after p ≡ before p) → PointersHeld before object i
    → pointer_at i k ≡ Some p → IsSome (of_kind Data object after p)
held-old object before after i k p kept held at =
    subst (λ b. IsSome (seen_as Data object b)) (sym (kept p (lead before object i held k p at))) (held k p at)
