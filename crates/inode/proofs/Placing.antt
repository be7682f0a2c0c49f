-- The bytes of a write in a block, and in an object.
use Rattle.std.proofs.Common.{◌≡◌, ℕ, ◌+◌, ◌-◌, ◌*◌, ◌<◌, ◌≤◌, min, max, ◌&&◌, true, cond, nat_le, nat_lt, List, [], ◌∷◌, ◌++◌, length, get_or, take, drop, replicate, inl, inr, refl, ap, sym, ◌∙◌, arith}
use Rattle.std.proofs.lemmas.Bool.{cases_lt, and_from, and_left, and_right, le-leb, lt-ltb, lt-leb, le-ltb, cond-true, cond-false}
use Rattle.std.proofs.lemmas.List.{get_or_append_left, get_or-append_right, get_or-take, get_or-drop, get_or-replicate, get_or_past, length-append, length-take, length-drop}
use Rattle.s4_types.specs.Pointer.{Place}
use Rattle.s4_model.specs.Effect.{resized, written}
use Rattle.s4_model.proofs.PlainLemmas.{length-resized}
use Rattle.codec.specs.declared.inodes.Inode.{Inode}
use Rattle.inode.specs.Contents.{byte_of}
use Rattle.inode.specs.Changed.{byte_written, block_of}
use Rattle.inode.specs.private.Placing.{Placed}
use Rattle.inode.proofs.Listing.{listed-at, listed-is}

-- the byte at a place after a write, where the place is written and where it isn't
pub byte_written-in : (contents : Place → List ℕ) (i : Inode) (offset : ℕ) (bytes : List ℕ) (n : ℕ) → offset ≤ n → n < offset + length bytes → byte_written contents i offset bytes n ≡ get_or bytes (n - offset) 0
unfolding byte_written
byte_written-in contents i offset bytes n low high =
    cond-true (nat_le offset n && nat_lt n (offset + length bytes)) (get_or bytes (n - offset) 0) (byte_of contents i n) (and_from (nat_le offset n) (nat_lt n (offset + length bytes)) (le-leb offset n low) (lt-ltb n (offset + length bytes) high))

pub byte_written-before : (contents : Place → List ℕ) (i : Inode) (offset : ℕ) (bytes : List ℕ) (n : ℕ) → n < offset → byte_written contents i offset bytes n ≡ byte_of contents i n
unfolding byte_written
byte_written-before contents i offset bytes n lt =
    cond-false (nat_le offset n && nat_lt n (offset + length bytes)) (get_or bytes (n - offset) 0) (byte_of contents i n) (and_left (nat_le offset n) (nat_lt n (offset + length bytes)) (lt-leb offset n lt))

pub byte_written-behind : (contents : Place → List ℕ) (i : Inode) (offset : ℕ) (bytes : List ℕ) (n : ℕ) → offset + length bytes ≤ n → byte_written contents i offset bytes n ≡ byte_of contents i n
unfolding byte_written
byte_written-behind contents i offset bytes n le =
    cond-false (nat_le offset n && nat_lt n (offset + length bytes)) (get_or bytes (n - offset) 0) (byte_of contents i n) (and_right (nat_le offset n) (nat_lt n (offset + length bytes)) (le-ltb n (offset + length bytes) le))

-- a block with the bytes of a write placed in it is the one that the write makes
pub placed_block : (contents : Place → List ℕ) (i : Inode) (k offset : ℕ) (bytes was now : List ℕ) → was ≡ block_of (byte_of contents i) k → length now ≡ 512
    → Placed k offset bytes was now
    → now ≡ block_of (byte_written contents i offset bytes) k
unfolding byte_written
placed_block contents i k offset bytes was now e len each =
    listed-is (byte_written contents i offset bytes) (512 * k) 512 now len
    (λ n lt. each n lt ∙ ap (λ b. cond (nat_le offset (512 * k + n) && nat_lt (512 * k + n) (offset + length bytes)) (get_or bytes (512 * k + n - offset) 0) b) (ap (λ l. get_or l n 0) e ∙ listed-at (byte_of contents i) (512 * k) 512 n (512 * k + n) 0 lt refl))

-- a block that the write covers whole has its bytes alone
pub covered_block : (contents : Place → List ℕ) (i : Inode) (k offset : ℕ) (bytes was now : List ℕ) → offset ≤ 512 * k → 512 * k + 512 ≤ offset + length bytes → length now ≡ 512
    → Placed k offset bytes was now
    → now ≡ block_of (byte_written contents i offset bytes) k
unfolding byte_written
covered_block contents i k offset bytes was now low high len each =
    listed-is (byte_written contents i offset bytes) (512 * k) 512 now len
    (λ n lt.
    let inside : (nat_le offset (512 * k + n) && nat_lt (512 * k + n) (offset + length bytes)) ≡ true = and_from (nat_le offset (512 * k + n)) (nat_lt (512 * k + n) (offset + length bytes)) (le-leb offset (512 * k + n) (omega arith)) (lt-ltb (512 * k + n) (offset + length bytes) (omega arith)) in
    each n lt
    ∙ cond-true (nat_le offset (512 * k + n) && nat_lt (512 * k + n) (offset + length bytes)) (get_or bytes (512 * k + n - offset) 0) (get_or was n 0) inside
    ∙ sym (cond-true (nat_le offset (512 * k + n) && nat_lt (512 * k + n) (offset + length bytes)) (get_or bytes (512 * k + n - offset) 0) (byte_of contents i (512 * k + n)) inside))

pub resized-at : (size : ℕ) (xs : List ℕ) (n : ℕ) → n < size → get_or (resized size xs) n 0 ≡ get_or xs n 0
resized-at size xs n lt =
    let front : length (take size xs) ≡ min size (length xs) = length-take size xs in
    elim (cases_lt n (length xs)) [
      | inl below ↦ get_or_append_left (take size xs) (replicate (size - length xs) 0) 0 n (omega arith) ∙ get_or-take size xs n 0 lt
      | inr past ↦
          get_or-append_right (take size xs) (replicate (size - length xs) 0) (min size (length xs)) n 0 front (omega arith)
          ∙ get_or-replicate {A = ℕ} (size - length xs) (n - min size (length xs)) 0 0 (omega arith)
          ∙ sym (get_or_past xs n 0 past)
    ]

pub written-parts : (offset : ℕ) (bytes content : List ℕ) → 0 < length bytes → written offset bytes content ≡ resized offset content ++ bytes ++ drop (offset + length bytes) content
written-parts offset [] content lt = absurd (omega arith)
written-parts offset (b ∷ bytes) content lt = refl

pub written-length : (offset : ℕ) (bytes content : List ℕ) → 0 < length bytes → length (written offset bytes content) ≡ max (length content) (offset + length bytes)
written-length offset bytes content lt =
    let one : length (resized offset content) ≡ offset = length-resized offset content in
    let two : length (resized offset content ++ bytes) ≡ length (resized offset content) + length bytes = length-append (resized offset content) bytes in
    let three : length (drop (offset + length bytes) content) ≡ length content - (offset + length bytes) = length-drop (offset + length bytes) content in
    ap length (written-parts offset bytes content lt) ∙ length-append (resized offset content ++ bytes) (drop (offset + length bytes) content) ∙ omega arith

pub written-before : (offset : ℕ) (bytes content : List ℕ) (n : ℕ) → 0 < length bytes → n < offset → get_or (written offset bytes content) n 0 ≡ get_or content n 0
written-before offset bytes content n some lt =
    let one : length (resized offset content) ≡ offset = length-resized offset content in
    let two : length (resized offset content ++ bytes) ≡ length (resized offset content) + length bytes = length-append (resized offset content) bytes in
    ap (λ l. get_or l n 0) (written-parts offset bytes content some)
    ∙ get_or_append_left (resized offset content ++ bytes) (drop (offset + length bytes) content) 0 n (omega arith)
    ∙ get_or_append_left (resized offset content) bytes 0 n (omega arith)
    ∙ resized-at offset content n lt

pub written-in : (offset : ℕ) (bytes content : List ℕ) (n : ℕ) → offset ≤ n → n < offset + length bytes → get_or (written offset bytes content) n 0 ≡ get_or bytes (n - offset) 0
written-in offset bytes content n low high =
    let one : length (resized offset content) ≡ offset = length-resized offset content in
    let two : length (resized offset content ++ bytes) ≡ length (resized offset content) + length bytes = length-append (resized offset content) bytes in
    ap (λ l. get_or l n 0) (written-parts offset bytes content (omega arith))
    ∙ get_or_append_left (resized offset content ++ bytes) (drop (offset + length bytes) content) 0 n (omega arith)
    ∙ get_or-append_right (resized offset content) bytes offset n 0 one low

pub written-behind : (offset : ℕ) (bytes content : List ℕ) (n : ℕ) → 0 < length bytes → offset + length bytes ≤ n → get_or (written offset bytes content) n 0 ≡ get_or content n 0
written-behind offset bytes content n some le =
    let one : length (resized offset content) ≡ offset = length-resized offset content in
    let two : length (resized offset content ++ bytes) ≡ length (resized offset content) + length bytes = length-append (resized offset content) bytes in
    ap (λ l. get_or l n 0) (written-parts offset bytes content some)
    ∙ get_or-append_right (resized offset content ++ bytes) (drop (offset + length bytes) content) (offset + length bytes) n 0 (omega arith) le
    ∙ get_or-drop (offset + length bytes) content (n - (offset + length bytes)) 0
    ∙ ap (λ m. get_or content m 0) (omega arith)

-- a list with another written over a part of it
spliced : ℕ → ℕ → List ℕ → List ℕ → List ℕ
spliced a k xs ys = take a xs ++ (ys ++ drop k (drop a xs))

spliced-before : (a k : ℕ) (xs ys : List ℕ) (n : ℕ) → a ≤ length xs → n < a → get_or (spliced a k xs ys) n 0 ≡ get_or xs n 0
unfolding spliced
spliced-before a k xs ys n le lt =
    let front : length (take a xs) ≡ min a (length xs) = length-take a xs in
    get_or_append_left (take a xs) (ys ++ drop k (drop a xs)) 0 n (omega arith) ∙ get_or-take a xs n 0 lt

spliced-in : (a k : ℕ) (xs ys : List ℕ) (n : ℕ) → a ≤ length xs → a ≤ n → n < a + length ys → get_or (spliced a k xs ys) n 0 ≡ get_or ys (n - a) 0
unfolding spliced
spliced-in a k xs ys n le low high =
    let front : length (take a xs) ≡ a = length-take a xs ∙ omega arith in
    get_or-append_right (take a xs) (ys ++ drop k (drop a xs)) a n 0 front low ∙ get_or_append_left ys (drop k (drop a xs)) 0 (n - a) (omega arith)

spliced-behind : (a k : ℕ) (xs ys : List ℕ) (n : ℕ) → a ≤ length xs → length ys ≡ k → a + k ≤ n → get_or (spliced a k xs ys) n 0 ≡ get_or xs n 0
unfolding spliced
spliced-behind a k xs ys n le len past =
    let front : length (take a xs) ≡ a = length-take a xs ∙ omega arith in
    get_or-append_right (take a xs) (ys ++ drop k (drop a xs)) a n 0 front (omega arith)
    ∙ get_or-append_right ys (drop k (drop a xs)) k (n - a) 0 len (omega arith)
    ∙ get_or-drop k (drop a xs) (n - a - k) 0
    ∙ get_or-drop a xs (k + (n - a - k)) 0
    ∙ ap (λ m. get_or xs m 0) (omega arith)

-- The bytes of a write, put over the part of a block where they stand: from the later of block and write to the
-- earlier of their ends.
pub placed-at : (was bytes part : List ℕ) (k offset from to first n : ℕ) → length was ≡ 512 → from ≡ offset - k * 512 → to ≡ min (offset + length bytes - k * 512) 512 → first ≡ k * 512 - offset
    → part ≡ take (first + (to - from) - first) (drop first bytes) → offset < 512 * k + 512 → 512 * k < offset + length bytes → n < 512
    → get_or (take from was ++ (part ++ drop (to - from) (drop from was))) n 0 ≡ cond (nat_le offset (512 * k + n) && nat_lt (512 * k + n) (offset + length bytes)) (get_or bytes (512 * k + n - offset) 0) (get_or was n 0)
unfolding spliced
placed-at was bytes part k offset from to first n len is_from is_to is_first is_part low high lt =
    let size : length part ≡ to - from = ap length is_part ∙ length-take (first + (to - from) - first) (drop first bytes) ∙ ap (min (first + (to - from) - first)) (length-drop first bytes) ∙ omega arith in
    elim (cases_lt n from) [
      | inl before ↦
          spliced-before from (to - from) was part n (omega arith) before
          ∙ sym (cond-false (nat_le offset (512 * k + n) && nat_lt (512 * k + n) (offset + length bytes)) (get_or bytes (512 * k + n - offset) 0) (get_or was n 0) (and_left (nat_le offset (512 * k + n)) (nat_lt (512 * k + n) (offset + length bytes)) (lt-leb offset (512 * k + n) (omega arith))))
      | inr past ↦ elim (cases_lt n to) [
        | inl within ↦
            spliced-in from (to - from) was part n (omega arith) past (omega arith)
            ∙ ap (λ l. get_or l (n - from) 0) is_part
            ∙ get_or-take (first + (to - from) - first) (drop first bytes) (n - from) 0 (omega arith)
            ∙ get_or-drop first bytes (n - from) 0
            ∙ ap (λ m. get_or bytes m 0) (omega arith)
            ∙ sym (cond-true (nat_le offset (512 * k + n) && nat_lt (512 * k + n) (offset + length bytes)) (get_or bytes (512 * k + n - offset) 0) (get_or was n 0) (and_from (nat_le offset (512 * k + n)) (nat_lt (512 * k + n) (offset + length bytes)) (le-leb offset (512 * k + n) (omega arith)) (lt-ltb (512 * k + n) (offset + length bytes) (omega arith))))
        | inr behind ↦
            spliced-behind from (to - from) was part n (omega arith) size (omega arith)
            ∙ sym (cond-false (nat_le offset (512 * k + n) && nat_lt (512 * k + n) (offset + length bytes)) (get_or bytes (512 * k + n - offset) 0) (get_or was n 0) (and_right (nat_le offset (512 * k + n)) (nat_lt (512 * k + n) (offset + length bytes)) (le-ltb (512 * k + n) (offset + length bytes) (omega arith))))
      ]
    ]
