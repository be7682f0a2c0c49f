-- Parts of a block's bytes: those of one word, and one part after another.
use Rattle.std.proofs.Common.{◌≡◌, ℕ, zero, suc, ◌+◌, ◌-◌, ◌*◌, ◌/◌, ◌%◌, ◌<◌, ◌≤◌, List, [], ◌∷◌, ◌++◌, length, take, drop, slice_index, replicate, flat_map, refl, sym, ap, ◌∙◌, arith, length-take-le, length-drop, take-add, get_or-take, get_or-drop, ext_get_or}
use Rattle.std.proofs.lemmas.List.{take-append-le, drop-append-le, drop-drop, append_assoc, take_all, take_at}
use Rattle.std.proofs.Math.Seq.{drop-append-add, take-append-add}
use Rattle.byteorder.specs.Endian.{big_bytes}
use Rattle.segment_word.specs.Layout.{block_bytes}

length-word : (x : ℕ) → length (big_bytes 8 x) ≡ 8
length-word x = refl

-- bytes of one word among those of some words
part_of_word : (words : List ℕ) (k s n : ℕ) → k < length words → s + n ≤ 8 → take n (drop (8 * k + s) (flat_map (big_bytes 8) words)) ≡ take n (drop s (big_bytes 8 (slice_index words k)))
part_of_word [] k s n inside low = absurd (omega arith)
part_of_word (x ∷ words) zero s n inside low =
    let size : length (big_bytes 8 x) ≡ 8 = length-word x in
    ap (λ (j : ℕ). take n (drop j (big_bytes 8 x ++ flat_map (big_bytes 8) words))) (omega arith)
    ∙ ap (take n) (drop-append-le s (big_bytes 8 x) (flat_map (big_bytes 8) words) (omega (arith, size, low)))
    ∙ take-append-le n (drop s (big_bytes 8 x)) (flat_map (big_bytes 8) words) (omega (arith, length-drop s (big_bytes 8 x), size, low))
part_of_word (x ∷ words) (suc k) s n inside low =
    let size : length (big_bytes 8 x) ≡ 8 = length-word x in
    ap (λ (j : ℕ). take n (drop j (big_bytes 8 x ++ flat_map (big_bytes 8) words))) (omega (arith, size))
    ∙ ap (take n) (drop-append-add (big_bytes 8 x) (flat_map (big_bytes 8) words) (8 * k + s))
    ∙ part_of_word words k s n (omega arith) low

-- bytes of one word of a block
word_of_block : (contents : List ℕ) (b at n : ℕ) → length contents ≡ 1024 → b < 16 → at < 512 → at % 8 + n ≤ 8
    → take n (drop at (block_bytes contents b)) ≡ take n (drop (at % 8) (big_bytes 8 (slice_index contents (64 * b + at / 8))))
unfolding block_bytes
word_of_block contents b at n long low inside few =
    let words : List ℕ = take 64 (drop (64 * b) contents) in
    let full : length (take 64 (drop (64 * b) contents)) ≡ 64 = length-take-le 64 (drop (64 * b) contents) (omega (arith, length-drop (64 * b) contents)) in
    ap (λ (j : ℕ). take n (drop j (flat_map (big_bytes 8) (take 64 (drop (64 * b) contents))))) (omega arith)
    ∙ part_of_word (take 64 (drop (64 * b) contents)) (at / 8) (at % 8) n (omega (arith, full, inside)) few
    ∙ ap (λ (w : ℕ). take n (drop (at % 8) (big_bytes 8 w))) (get_or-take 64 (drop (64 * b) contents) (at / 8) 0 (omega (arith, inside)) ∙ get_or-drop (64 * b) contents (at / 8) 0)

-- bytes of one word were added
pub word_added : (contents old all : List ℕ) (b at next start end w : ℕ) → length contents ≡ 1024 → b < 16 → at < 512 → start ≡ at % 8 → start ≤ end → end ≤ 8 → next ≡ at + (end - start)
    → w ≡ slice_index contents (64 * b + at / 8) → all ≡ old ++ take (end - start) (drop start (big_bytes 8 w)) → all ≡ old ++ take (next - at) (drop at (block_bytes contents b))
word_added contents old all b at next start end w long low inside is_start le most is_next is_word is_all =
    let here : take (end - start) (drop start (big_bytes 8 w)) ≡ take (next - at) (drop at (block_bytes contents b)) =
    ap (λ (s : ℕ). take (end - start) (drop s (big_bytes 8 w))) is_start
    ∙ ap (λ (x : ℕ). take (end - start) (drop (at % 8) (big_bytes 8 x))) is_word
    ∙ sym (word_of_block contents b at (end - start) long low inside (omega (arith, is_start, le, most)))
    ∙ ap (λ (m : ℕ). take m (drop at (block_bytes contents b))) (let e : end - start ≡ next - at = omega (arith, is_next, le) in e) in
    is_all ∙ ap (λ (l : List ℕ). old ++ l) here

-- the bytes of words after some others, and of this many from the first on
words_drop : (k : ℕ) (words : List ℕ) → k ≤ length words → drop (8 * k) (flat_map (big_bytes 8) words) ≡ flat_map (big_bytes 8) (drop k words)
words_drop zero words h = refl
words_drop (suc k) [] h = absurd (omega arith)
words_drop (suc k) (x ∷ words) h =
    let size : length (big_bytes 8 x) ≡ 8 = length-word x in
    ap (λ (j : ℕ). drop j (big_bytes 8 x ++ flat_map (big_bytes 8) words)) (omega (arith, size)) ∙ drop-append-add (big_bytes 8 x) (flat_map (big_bytes 8) words) (8 * k) ∙ words_drop k words (omega arith)

words_take : (k : ℕ) (words : List ℕ) → k ≤ length words → take (8 * k) (flat_map (big_bytes 8) words) ≡ flat_map (big_bytes 8) (take k words)
words_take zero words h = refl
words_take (suc k) [] h = absurd (omega arith)
words_take (suc k) (x ∷ words) h =
    let size : length (big_bytes 8 x) ≡ 8 = length-word x in
    ap (λ (j : ℕ). take j (big_bytes 8 x ++ flat_map (big_bytes 8) words)) (omega (arith, size)) ∙ take-append-add (big_bytes 8 x) (flat_map (big_bytes 8) words) (8 * k)
    ∙ ap (λ (l : List ℕ). big_bytes 8 x ++ l) (words_take k words (omega arith))

-- bytes of eight words were added
pub run_added : (contents old new found : List ℕ) (b index : ℕ) → length contents ≡ 1024 → b < 16 → index ≤ 56 → length found ≡ 8
    → ((i : ℕ) → i < 8 → slice_index found i ≡ slice_index contents (64 * b + index + i)) → new ≡ old ++ flat_map (big_bytes 8) found
    → new ≡ old ++ take (8 * index + 64 - 8 * index) (drop (8 * index) (block_bytes contents b))
unfolding block_bytes
run_added contents old new found b index long low inside full same is_new =
    let words : List ℕ = take 64 (drop (64 * b) contents) in
    let all : length (take 64 (drop (64 * b) contents)) ≡ 64 = length-take-le 64 (drop (64 * b) contents) (omega (arith, length-drop (64 * b) contents)) in
    let left : 8 ≤ length (drop index (take 64 (drop (64 * b) contents))) = omega (arith, length-drop index (take 64 (drop (64 * b) contents)), all, inside) in
    let is_found : found ≡ take 8 (drop index (take 64 (drop (64 * b) contents))) = ext_get_or 0 found (take 8 (drop index (take 64 (drop (64 * b) contents))))
    (full ∙ sym (length-take-le 8 (drop index (take 64 (drop (64 * b) contents))) left))
    (λ i h. let few : i < 8 = omega (arith, h, full) in
    same i few
    ∙ ap (λ (j : ℕ). slice_index contents j) (let e : 64 * b + index + i ≡ 64 * b + (index + i) = omega arith in e)
    ∙ sym (get_or-drop (64 * b) contents (index + i) 0)
    ∙ sym (get_or-take 64 (drop (64 * b) contents) (index + i) 0 (omega (arith, few, inside)))
    ∙ sym (get_or-drop index (take 64 (drop (64 * b) contents)) i 0)
    ∙ sym (get_or-take 8 (drop index (take 64 (drop (64 * b) contents))) i 0 few)) in
    is_new
    ∙ ap (λ (l : List ℕ). old ++ flat_map (big_bytes 8) l) is_found
    ∙ ap (λ (l : List ℕ). old ++ l) (sym (words_take 8 (drop index (take 64 (drop (64 * b) contents))) left))
    ∙ ap (λ (l : List ℕ). old ++ take 64 l) (sym (words_drop index (take 64 (drop (64 * b) contents)) (omega (arith, all, inside))))
    ∙ ap (λ (m : ℕ). old ++ take m (drop (8 * index) (flat_map (big_bytes 8) (take 64 (drop (64 * b) contents))))) (let e : 64 ≡ 8 * index + 64 - 8 * index = omega arith in e)

-- a part of a block was added after the part in front of it
pub more_added : (block old new all : List ℕ) (from at next : ℕ) → from ≤ at → at ≤ next → new ≡ old ++ take (at - from) (drop from block) → all ≡ new ++ take (next - at) (drop at block)
    → all ≡ old ++ take (next - from) (drop from block)
more_added block old new all from at next behind le is_new is_all =
    let here : take (next - at) (drop at block) ≡ take (next - at) (drop (at - from) (drop from block)) =
    ap (λ (j : ℕ). take (next - at) (drop j block)) (let e : at ≡ from + (at - from) = omega (arith, behind) in e)
    ∙ ap (take (next - at)) (sym (drop-drop (at - from) from block)) in
    is_all
    ∙ ap (λ (l : List ℕ). l ++ take (next - at) (drop at block)) is_new
    ∙ ap (λ (l : List ℕ). (old ++ take (at - from) (drop from block)) ++ l) here
    ∙ append_assoc old (take (at - from) (drop from block)) (take (next - at) (drop (at - from) (drop from block)))
    ∙ ap (λ (l : List ℕ). old ++ l) (sym (take-add (at - from) (next - at) (drop from block)))
    ∙ ap (λ (m : ℕ). old ++ take m (drop from block)) (omega (arith, behind, le))

-- 512 bytes were made room for, and written where the zeros were
pub filled : (old zeroed out post rest : List ℕ) (start size all count : ℕ) → start ≡ length old → size ≡ start + 512 → all ≡ size → zeroed ≡ take size old ++ replicate count 0 → length out ≡ 512
    → take all ((take start zeroed ++ (out ++ post)) ++ rest) ≡ old ++ out
filled old zeroed out post rest start size all count is_start is_size is_all is_zeroed full =
    let front : take start zeroed ≡ old =
    ap (take start) is_zeroed
    ∙ ap (λ (l : List ℕ). take start (l ++ replicate count 0)) (take_all size old (omega (arith, is_start, is_size)))
    ∙ take_at old (replicate count 0) start (sym is_start) in
    ap (λ (l : List ℕ). take all ((l ++ (out ++ post)) ++ rest)) front
    ∙ ap (take all) (append_assoc old (out ++ post) rest)
    ∙ ap (λ (n : ℕ). take n (old ++ ((out ++ post) ++ rest))) (let e : all ≡ length old + 512 = omega (arith, is_start, is_size, is_all) in e)
    ∙ take-append-add old ((out ++ post) ++ rest) 512
    ∙ ap (λ (l : List ℕ). old ++ take 512 l) (append_assoc out post rest)
    ∙ ap (λ (l : List ℕ). old ++ l) (take_at out (post ++ rest) 512 full)

-- all 512 bytes of a block were added
pub all_added : (block old new : List ℕ) → length block ≡ 512 → new ≡ old ++ block → new ≡ old ++ take (512 - 0) (drop 0 block)
all_added block old new full is_new = is_new ∙ ap (λ (l : List ℕ). old ++ l) (sym (take_all 512 block (omega (arith, full))))

-- a range of 512 bytes of a block is all of it
pub whole_range : (block old new : List ℕ) (from to : ℕ) → to ≤ 512 → to - from ≡ 512 → new ≡ old ++ take (512 - 0) (drop 0 block) → new ≡ old ++ take (to - from) (drop from block)
whole_range block old new from to high all is_new =
    let none : from ≡ 0 = omega (arith, high, all) in
    is_new
    ∙ ap (λ (n : ℕ). old ++ take n (drop 0 block)) (sym all)
    ∙ ap (λ (n : ℕ). old ++ take (to - from) (drop n block)) (sym none)
