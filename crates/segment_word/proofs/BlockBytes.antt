-- The bytes of the blocks of a frame after one block was written.
use Rattle.std.proofs.Common.{◌≡◌, ◌≢◌, ℕ, zero, suc, ◌+◌, ◌-◌, ◌*◌, ◌<◌, ◌≤◌, List, [], ◌∷◌, ◌++◌, length, take, drop, get_or, flat_map, refl, sym, ap, ◌∙◌, subst, arith, length-take, length-drop, length-take-le, get_or-take, get_or-drop, ext_get_or, take-append-drop, lt_of_not-le}
use native.Mathlib.Decide.{dec_le}
use lib.Seq.{paste, length-paste, length_paste_head, get_or-append-add, get_or-append_right}
use lib.ListN.{get_or-append}
use Rattle.std.proofs.lemmas.Nat.{be_bytes_8}
use Rattle.byteorder.specs.Endian.{big_bytes, big_number}
use Rattle.lemmas.proofs.Nat.{add_rest}
use Rattle.segment_word.specs.Frames.{Frame}
use Rattle.segment_word.specs.Layout.{block_bytes, first_words, block_words, with_block}
use Rattle.segment_word.proofs.BlockWords.{length-block_words}

first_small : (bytes : List ℕ) (n : ℕ) → ((i : ℕ) → get_or bytes i 0 < 256) → (i : ℕ) → get_or (take n bytes) i 0 < 256
first_small bytes zero small i = omega arith
first_small [] (suc n) small i = omega arith
first_small (x ∷ bytes) (suc n) small zero = small 0
first_small (x ∷ bytes) (suc n) small (suc i) = first_small bytes n (λ j. small (suc j)) i

-- 8 bytes are those of the number that they encode
number_back : (bytes : List ℕ) → 8 ≤ length bytes → ((i : ℕ) → get_or bytes i 0 < 256) → big_bytes 8 (big_number 8 bytes) ≡ take 8 bytes
number_back bytes long small =
    let at : (i : ℕ) → i < 8 → get_or (take 8 bytes) i 0 ≡ get_or bytes i 0 = λ i h. get_or-take 8 bytes i 0 h in
    be_bytes_8 (take 8 bytes) (big_number 8 bytes) (length-take-le 8 bytes long) (first_small bytes 8 small)
    (omega (arith, at 0 (omega arith), at 1 (omega arith), at 2 (omega arith), at 3 (omega arith), at 4 (omega arith), at 5 (omega arith), at 6 (omega arith), at 7 (omega arith)))

first_back : (n : ℕ) (bytes : List ℕ) → length bytes ≡ 8 * n → ((i : ℕ) → get_or bytes i 0 < 256) → flat_map (big_bytes 8) (first_words n bytes) ≡ bytes
first_back zero [] long small = refl
first_back zero (x ∷ bytes) long small = absurd (omega arith)
first_back (suc n) bytes long small =
    ap (λ (l : List ℕ). l ++ flat_map (big_bytes 8) (first_words n (drop 8 bytes))) (number_back bytes (omega arith) small)
    ∙ ap (λ (l : List ℕ). take 8 bytes ++ l) (first_back n (drop 8 bytes) (omega (arith, length-drop 8 bytes)) (λ i. subst (λ (x : ℕ). x < 256) (sym (get_or-drop 8 bytes i 0)) (small (8 + i))))
    ∙ take-append-drop 8 bytes

pub block_words-back : (bytes : List ℕ) → length bytes ≡ 512 → ((i : ℕ) → get_or bytes i 0 < 256) → flat_map (big_bytes 8) (block_words bytes) ≡ bytes
unfolding block_words
block_words-back bytes long small = first_back 64 bytes long small

-- the words that were replaced, and those that were not
pub replaced : (contents words : List ℕ) (at n i : ℕ) → at + n ≤ length contents → n ≤ length words → i < n → get_or (paste contents at words n) (at + i) 0 ≡ get_or words i 0
replaced contents words at n i long full h =
    let head : length (take at contents ++ take n words) ≡ at + n = length_paste_head contents at words n (omega arith) full in
    let front : length (take at contents) ≡ at = length-take-le at contents (omega arith) in
    get_or-append (take at contents ++ take n words) (drop (at + n) contents) 0 (at + i) (omega arith)
    ∙ ap (λ (j : ℕ). get_or (take at contents ++ take n words) (j + i) 0) (sym front)
    ∙ get_or-append-add (take at contents) (take n words) i 0
    ∙ get_or-take n words i 0 h

pub before : (contents words : List ℕ) (at n j : ℕ) → at + n ≤ length contents → n ≤ length words → j < at → get_or (paste contents at words n) j 0 ≡ get_or contents j 0
before contents words at n j long full h =
    let head : length (take at contents ++ take n words) ≡ at + n = length_paste_head contents at words n (omega arith) full in
    let front : length (take at contents) ≡ at = length-take-le at contents (omega arith) in
    get_or-append (take at contents ++ take n words) (drop (at + n) contents) 0 j (omega arith)
    ∙ get_or-append (take at contents) (take n words) 0 j (omega arith)
    ∙ get_or-take at contents j 0 h

pub behind : (contents words : List ℕ) (at n j : ℕ) → at + n ≤ length contents → n ≤ length words → at + n ≤ j → get_or (paste contents at words n) j 0 ≡ get_or contents j 0
behind contents words at n j long full h =
    let head : length (take at contents ++ take n words) ≡ at + n = length_paste_head contents at words n (omega arith) full in
    get_or-append_right (take at contents ++ take n words) (drop (at + n) contents) j 0 (omega arith)
    ∙ ap (λ (m : ℕ). get_or (drop (at + n) contents) (j - m) 0) head
    ∙ get_or-drop (at + n) contents (j - (at + n)) 0
    ∙ ap (λ (m : ℕ). get_or contents m 0) (add_rest (at + n) j h)

outside : (contents words : List ℕ) (b c i : ℕ) → c ≢ b → i < 64 → 64 * b + 64 ≤ length contents → 64 ≤ length words
    → get_or (paste contents (64 * b) words 64) (64 * c + i) 0 ≡ get_or contents (64 * c + i) 0
outside contents words b c i apart short long full = elim (dec_le (64 * b + 64) (64 * c + i)) as (λ _. get_or (paste contents (64 * b) words 64) (64 * c + i) 0 ≡ get_or contents (64 * c + i) 0) [
  | yes h ↦ behind contents words (64 * b) 64 (64 * c + i) long full h
  | no h ↦ let below : 64 * c + i < 64 * b + 64 = lt_of_not-le h in before contents words (64 * b) 64 (64 * c + i) long full (omega arith)
]

pub stored_here : (k : Frame) (b : ℕ) (bytes : List ℕ) → b < 16 → length k.contents ≡ 1024 → flat_map (big_bytes 8) (block_words bytes) ≡ bytes → block_bytes (with_block k b bytes).contents b ≡ bytes
unfolding block_bytes
stored_here k b bytes low long back =
    let words : List ℕ = block_words bytes in
    let full : length words ≡ 64 = length-block_words bytes in
    let whole : length (paste k.contents (64 * b) words 64) ≡ 1024 = length-paste k.contents (64 * b) words 64 (omega arith) (omega arith) ∙ long in
    ap (flat_map (big_bytes 8)) (ext_get_or 0 (take 64 (drop (64 * b) (paste k.contents (64 * b) words 64))) words
    (length-take-le 64 (drop (64 * b) (paste k.contents (64 * b) words 64)) (omega (arith, length-drop (64 * b) (paste k.contents (64 * b) words 64))) ∙ sym full)
    (λ i h. let short : i < 64 = omega (arith, length-take 64 (drop (64 * b) (paste k.contents (64 * b) words 64))) in
    get_or-take 64 (drop (64 * b) (paste k.contents (64 * b) words 64)) i 0 short ∙ get_or-drop (64 * b) (paste k.contents (64 * b) words 64) i 0
    ∙ replaced k.contents words (64 * b) 64 i (omega arith) (omega arith) short))
    ∙ back

pub stored_elsewhere : (k : Frame) (b c : ℕ) (bytes : List ℕ) → b < 16 → c < 16 → c ≢ b → length k.contents ≡ 1024 → block_bytes (with_block k b bytes).contents c ≡ block_bytes k.contents c
unfolding block_bytes
stored_elsewhere k b c bytes low small apart long =
    let words : List ℕ = block_words bytes in
    let new : List ℕ = paste k.contents (64 * b) words 64 in
    let full : length words ≡ 64 = length-block_words bytes in
    let whole : length new ≡ 1024 = length-paste k.contents (64 * b) words 64 (omega arith) (omega arith) ∙ long in
    let size : (l : List ℕ) → length l ≡ 1024 → length (take 64 (drop (64 * c) l)) ≡ 64 = λ l h. length-take-le 64 (drop (64 * c) l) (omega (arith, length-drop (64 * c) l)) in
    ap (flat_map (big_bytes 8)) (ext_get_or 0 (take 64 (drop (64 * c) new)) (take 64 (drop (64 * c) k.contents)) (size new whole ∙ sym (size k.contents long))
    (λ i h. let short : i < 64 = omega (arith, size new whole) in
    get_or-take 64 (drop (64 * c) new) i 0 short ∙ get_or-drop (64 * c) new i 0
    ∙ outside k.contents words b c i apart short (omega arith) (omega arith)
    ∙ sym (get_or-drop (64 * c) k.contents i 0) ∙ sym (get_or-take 64 (drop (64 * c) k.contents) i 0 short)))
