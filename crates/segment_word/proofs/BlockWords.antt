-- Blocks as 64 words: what is in a frame after some of them were written, and bytes against words.
use Rattle.std.proofs.Common.{◌≡◌, ℕ, zero, suc, ◌+◌, ◌*◌, ◌<◌, ◌≤◌, List, [], ◌∷◌, ◌++◌, set, length, take, drop, slice_index, flat_map, refl, sym, ap, ◌∙◌, arith, get_or-set_same, set-set, length-append, length-take, length-drop, length-take-le, take-add, drop-drop, get_or-take, get_or-drop, ext_get_or}
use Rattle.std.proofs.lemmas.List.{take_all, take_at}
use Rattle.std.proofs.lemmas.Grind.{flat_map-append}
use Rattle.std.proofs.Math.Seq.{take-append-add}
use borrow.Rule.Slice.PartMut.{mid_of, post_of, put_mid, same_len_mid}
use lib.Seq.{paste, paste-zero, paste-suc, set-get_or}
use Rattle.byteorder.specs.Endian.{big_bytes, big_number}
use Rattle.segment_word.specs.Frames.{Frame, View, no_frame}
use Rattle.segment_word.specs.Layout.{frame_at, block_bytes, first_words, block_words, with_words}
use Rattle.segment_word.specs.Steps.{with_frame, with_word}
use Rattle.segment_word.specs.private.Pins.{HasWords}

-- nothing was written yet
pub none_written : (v : View) (f at : ℕ) (words : List ℕ) → v ≡ with_frame v f (with_words (frame_at v.frames f) at words 0)
none_written v f at words =
    let same : with_words (frame_at v.frames f) at words 0 ≡ frame_at v.frames f = ap (λ (l : List ℕ). record (frame_at v.frames f) { contents = l }) (sym (paste-zero (frame_at v.frames f).contents at words)) in
    sym (ap (with_frame v f) same ∙ ap (λ (l : List Frame). record v { frames = l }) (set-get_or v.frames f no_frame))

-- the frame that a view has after one was put there
pub put_there : (v : View) (f : ℕ) (k : Frame) → f < length v.frames → frame_at (with_frame v f k).frames f ≡ k
put_there v f k h = get_or-set_same v.frames f k no_frame h

-- a frame that has 1,024 words after some writes had them before
long_before : (contents words : List ℕ) (at i : ℕ) → at ≤ 960 → i < 64 → length words ≡ 64 → length (paste contents at words i) ≡ 1024 → length contents ≡ 1024
long_before contents words at i low small full long =
    omega (arith, length-append (take at contents ++ take i words) (drop (at + i) contents), length-append (take at contents) (take i words), length-take at contents, length-take i words, length-drop (at + i) contents)

-- one word more was written
pub one_written : (v : View) (f at i x : ℕ) (words : List ℕ) → f < length v.frames → at ≤ 960 → i < 64 → length words ≡ 64 → x ≡ slice_index words i
    → (w : View) → w ≡ with_frame v f (with_words (frame_at v.frames f) at words i)
    → length (frame_at w.frames f).contents ≡ 1024
    → (length (frame_at v.frames f).contents ≡ 1024) × (with_frame w f (with_word (frame_at w.frames f) (at + i) x) ≡ with_frame v f (with_words (frame_at v.frames f) at words (i + 1)))
one_written v f at i x words inside low small full is w e long =
    let k : Frame = frame_at v.frames f in
    let now : frame_at w.frames f ≡ with_words k at words i = ap (λ (y : View). frame_at y.frames f) e ∙ put_there v f (with_words k at words i) inside in
    let before : length k.contents ≡ 1024 = long_before k.contents words at i low small full (ap (λ (y : Frame). length y.contents) (sym now) ∙ long) in
    let next : suc i ≡ i + 1 = omega arith in
    let written : set (paste k.contents at words i) (at + i) x ≡ paste k.contents at words (i + 1) =
    ap (set (paste k.contents at words i) (at + i)) is ∙ paste-suc k.contents at words i 0 (omega arith) (omega arith) ∙ ap (paste k.contents at words) next in (
      before,
      ap (λ (y : View). with_frame y f (with_word (frame_at w.frames f) (at + i) x)) e
          ∙ ap (λ (y : Frame). with_frame (with_frame v f (with_words k at words i)) f (with_word y (at + i) x)) now
          ∙ ap (λ (l : List Frame). record v { frames = l }) (set-set v.frames f (with_words k at words i) (with_word (with_words k at words i) (at + i) x))
          ∙ ap (λ (l : List ℕ). with_frame v f (record k { contents = l })) written,
    )

-- 64 words that are those of a block are the block's bytes
pub is_block : (found contents : List ℕ) (b : ℕ) → length found ≡ 64 → b < 16 → length contents ≡ 1024
    → ((i : ℕ) → i < 64 → slice_index found i ≡ slice_index contents (64 * b + i)) → flat_map (big_bytes 8) found ≡ block_bytes contents b
unfolding block_bytes
is_block found contents b full low long same = ap (flat_map (big_bytes 8)) (ext_get_or 0 found (take 64 (drop (64 * b) contents))
    (full ∙ sym (length-take-le 64 (drop (64 * b) contents) (omega (arith, length-drop (64 * b) contents))))
    (λ i h. same i (omega arith) ∙ sym (get_or-drop (64 * b) contents i 0) ∙ sym (get_or-take 64 (drop (64 * b) contents) i 0 (omega arith))))

pub length-first_words : (n : ℕ) (bytes : List ℕ) → length (first_words n bytes) ≡ n
length-first_words zero bytes = refl
length-first_words (suc n) bytes = ap suc (length-first_words n (drop 8 bytes))

pub first_words-at : (n i : ℕ) (bytes : List ℕ) → i < n → slice_index (first_words n bytes) i ≡ big_number 8 (drop (8 * i) bytes)
first_words-at zero i bytes h = absurd (omega arith)
first_words-at (suc n) zero bytes h = refl
first_words-at (suc n) (suc i) bytes h = first_words-at n i (drop 8 bytes) (omega arith) ∙ ap (big_number 8) (drop-drop (8 * i) 8 bytes ∙ ap (λ (j : ℕ). drop j bytes) (omega arith))

pub length-block_words : (bytes : List ℕ) → length (block_words bytes) ≡ 64
unfolding block_words
length-block_words bytes = length-first_words 64 bytes

pub are_words : (words bytes : List ℕ) → length words ≡ 64 → ((i : ℕ) → i < length words → slice_index words i ≡ big_number 8 (drop (8 * i) bytes)) → words ≡ block_words bytes
unfolding block_words
are_words words bytes full same = ext_get_or 0 words (first_words 64 bytes) (full ∙ sym (length-first_words 64 bytes))
    (λ i h. same i h ∙ sym (first_words-at 64 i bytes (omega arith)))

-- the word that the eight bytes of a block from a place on encode
pub word_at : (bytes : List ℕ) (i x n : ℕ) → i < 64 → length bytes ≡ 512 → n + 8 * i ≡ 512 → x ≡ big_number 8 (take n (drop (8 * i) bytes)) → x ≡ slice_index (block_words bytes) i
unfolding block_words
word_at bytes i x n h full size is =
    is ∙ ap (big_number 8) (take_all n (drop (8 * i) bytes) (omega (arith, length-drop (8 * i) bytes, full, size))) ∙ sym (first_words-at 64 i bytes h)

length-words : (words : List ℕ) → length (flat_map (big_bytes 8) words) ≡ 8 * length words
length-words [] = refl
length-words (x ∷ words) =
    let eight : length (big_bytes 8 x) ≡ 8 = refl in
    length-append (big_bytes 8 x) (flat_map (big_bytes 8) words) ∙ omega (arith, eight, length-words words)

-- eight words of a block, found one by one
words_found : (contents found : List ℕ) (b index : ℕ) → b < 16 → index ≤ 56 → length found ≡ 8 → HasWords contents b index found → found ≡ take 8 (drop index (drop (64 * b) contents))
words_found contents found b index low inside full has =
    let left : 8 ≤ length (drop index (drop (64 * b) contents)) = omega (arith, length-drop index (drop (64 * b) contents), length-drop (64 * b) contents, has.0, low, inside) in
    ext_get_or 0 found (take 8 (drop index (drop (64 * b) contents))) (full ∙ sym (length-take-le 8 (drop index (drop (64 * b) contents)) left)) (λ k h.
    let few : k < 8 = omega (arith, h, full) in
    has.1 k few
    ∙ ap (λ (j : ℕ). slice_index contents j) (let e : 64 * b + index + k ≡ 64 * b + (index + k) = omega arith in e)
    ∙ sym (get_or-drop (64 * b) contents (index + k) 0)
    ∙ sym (get_or-drop index (drop (64 * b) contents) k 0)
    ∙ sym (get_or-take 8 (drop index (drop (64 * b) contents)) k 0 few))

-- the bytes of eight words that were written among 512 leave as many
pub run_fits : (bytes ys found : List ℕ) (i n : ℕ) → i < 8 → length bytes ≡ 512 → n ≡ 64 → length found ≡ 8 → ys ≡ flat_map (big_bytes 8) found → length (put_mid (64 * i) n bytes ys) ≡ 512
run_fits bytes ys found i n inside full size eight written =
    let part : length (mid_of (64 * i) n bytes) ≡ n = length-take-le n (drop (64 * i) bytes) (omega (arith, length-drop (64 * i) bytes, full, size, inside)) in
    let same : length ys ≡ length (mid_of (64 * i) n bytes) = ap length written ∙ omega (arith, length-words found, eight, part, size) in
    same_len_mid (64 * i) n bytes ys same ∙ full

-- the bytes of eight words more were written after those of the words in front of them
pub run_placed : (contents bytes ys found : List ℕ) (b i n : ℕ) → b < 16 → i < 8 → length bytes ≡ 512 → length found ≡ 8 → HasWords contents b (8 * i) found → ys ≡ flat_map (big_bytes 8) found
    → take (64 * i) bytes ≡ flat_map (big_bytes 8) (take (8 * i) (drop (64 * b) contents))
    → take (64 * (i + 1)) (put_mid (64 * i) n bytes ys) ≡ flat_map (big_bytes 8) (take (8 * (i + 1)) (drop (64 * b) contents))
run_placed contents bytes ys found b i n low inside full eight has written sofar =
    let words : List ℕ = drop (64 * b) contents in
    let post : List ℕ = post_of (64 * i) n bytes in
    let front : length (take (64 * i) bytes) ≡ 64 * i = length-take-le (64 * i) bytes (omega (arith, full, inside)) in
    let many : length (flat_map (big_bytes 8) found) ≡ 64 = omega (arith, length-words found, eight) in
    ap (λ (l : List ℕ). take (64 * (i + 1)) (take (64 * i) bytes ++ (l ++ post))) written
    ∙ ap (λ (m : ℕ). take m (take (64 * i) bytes ++ (flat_map (big_bytes 8) found ++ post))) (let e : 64 * (i + 1) ≡ length (take (64 * i) bytes) + 64 = omega (arith, front) in e)
    ∙ take-append-add (take (64 * i) bytes) (flat_map (big_bytes 8) found ++ post) 64
    ∙ ap (λ (l : List ℕ). take (64 * i) bytes ++ l) (take_at (flat_map (big_bytes 8) found) post 64 many)
    ∙ ap (λ (l : List ℕ). l ++ flat_map (big_bytes 8) found) sofar
    ∙ ap (λ (l : List ℕ). flat_map (big_bytes 8) (take (8 * i) words) ++ flat_map (big_bytes 8) l) (words_found contents found b (8 * i) low (omega arith) eight has)
    ∙ sym (flat_map-append (big_bytes 8) (take (8 * i) words) (take 8 (drop (8 * i) words)))
    ∙ ap (flat_map (big_bytes 8)) (sym (take-add (8 * i) 8 words))
    ∙ ap (λ (m : ℕ). flat_map (big_bytes 8) (take m words)) (let e : 8 * i + 8 ≡ 8 * (i + 1) = omega arith in e)

-- once all were written the bytes are the block's
pub all_placed : (contents bytes : List ℕ) (b i : ℕ) → i ≡ 8 → length bytes ≡ 512 → take (64 * i) bytes ≡ flat_map (big_bytes 8) (take (8 * i) (drop (64 * b) contents)) → bytes ≡ block_bytes contents b
unfolding block_bytes
all_placed contents bytes b i all full placed =
    sym (take_all (64 * i) bytes (omega (arith, all, full))) ∙ placed ∙ ap (λ (k : ℕ). flat_map (big_bytes 8) (take (8 * k) (drop (64 * b) contents))) all
