-- What a loss of bytes to zeros does to what is read of a record.
use Rattle.std.proofs.Common.{◌≡◌, ◌⊎◌, inl, inr, ℕ, zero, suc, ◌+◌, ◌-◌, ◌*◌, ◌<◌, ◌≤◌, List, ◌++◌, take, drop, slice_index, sym, ap, subst, ◌∙◌, arith, length-drop, ext_get_or}
use Rattle.std.proofs.Math.Seq.{take-add}
use Rattle.std.proofs.lemmas.Bool.{cases_lt}
use Rattle.std.proofs.lemmas.List.{length-take, get_or-take, get_or-drop, get_or_past}
use Rattle.update_log.specs.Records.{nonzeros}
use Rattle.update_log.specs.Sectors.{size_of}
use Rattle.update_log.specs.Tails.{Masks, IsOpen, IsFurtherMark, count_in, found_in, length_in, weight, word_in}
use Rattle.update_log.proofs.Nonzeros.{nonzeros_fall, nonzeros_front, nonzeros_same}

pub masks_after : (n : ℕ) (t q : List ℕ) → Masks t q → Masks (drop n t) (drop n q)
masks_after n t q m = record {
  long = omega (arith, m.long, length-drop n t, length-drop n q);
  each = λ i. rw (get_or-drop n t i 0, get_or-drop n q i 0) (m.each (n + i));
}

pub masks_before : (n : ℕ) (t q : List ℕ) → Masks t q → Masks (take n t) (take n q)
masks_before n t q m = record {
  long = omega (arith, m.long, length-take n t, length-take n q);
  each = λ i. elim (cases_lt i n) [
    | inl lt ↦ rw (get_or-take n t i 0 lt, get_or-take n q i 0 lt) (m.each i)
    | inr le ↦ inl (get_or_past (take n t) i 0 (omega (arith, le, length-take n t)))
  ];
}

pub mask_falls : (t q : List ℕ) → Masks t q → (i : ℕ) → slice_index t i ≤ slice_index q i
mask_falls t q m i = elim (m.each i) [
  | inl z ↦ omega (arith, z)
  | inr e ↦ omega (arith, e)
]

pub word_falls : (t q : List ℕ) → Masks t q → word_in t ≤ word_in q
unfolding word_in
word_falls t q m =
    let f = mask_falls (take 4 t) (take 4 q) (masks_before 4 t q m) in
    omega (arith, f 0, f 1, f 2, f 3)

four : (P : ℕ → Type 0) → P 0 → P 1 → P 2 → P 3 → (i : ℕ) → i < 4 → P i
four P a b c d zero lt = a
four P a b c d (suc zero) lt = b
four P a b c d (suc (suc zero)) lt = c
four P a b c d (suc (suc (suc zero))) lt = d
four P a b c d (suc (suc (suc (suc i)))) lt = absurd (omega (arith, lt))

pub word_same : (t q : List ℕ) → Masks t q → word_in t ≡ word_in q → take 4 t ≡ take 4 q
unfolding word_in
word_same t q m s =
    let four_masked = masks_before 4 t q m in
    let f = mask_falls (take 4 t) (take 4 q) four_masked in
    let same : (i : ℕ) → i < 4 → slice_index (take 4 t) i ≡ slice_index (take 4 q) i =
    four (λ (i : ℕ). slice_index (take 4 t) i ≡ slice_index (take 4 q) i)
    (omega (arith, s, f 0, f 1, f 2, f 3))
    (omega (arith, s, f 0, f 1, f 2, f 3))
    (omega (arith, s, f 0, f 1, f 2, f 3))
    (omega (arith, s, f 0, f 1, f 2, f 3)) in
    ext_get_or 0 (take 4 t) (take 4 q) four_masked.long (λ i lt. same i (omega (arith, lt, length-take 4 t)))

pub length_falls : (t q : List ℕ) → Masks t q → length_in t ≤ length_in q
unfolding length_in
length_falls t q m = word_falls (drop 21 t) (drop 21 q) (masks_after 21 t q m)

pub size_grows : (m n : ℕ) → m ≤ n → size_of m ≤ size_of n
size_grows m n le = omega (arith, le)

pub count_falls : (t q : List ℕ) → Masks t q → count_in t ≤ count_in q
unfolding count_in
count_falls t q m = word_falls (drop 1 t) (drop 1 q) (masks_after 1 t q m)

-- bytes after the count, as far as the payload's length says
first_falls : (t q : List ℕ) → Masks t q → nonzeros (take 1 t) ≤ nonzeros (take 1 q)
first_falls t q m = let h = masks_before 1 t q m in nonzeros_fall (take 1 t) (take 1 q) h.long h.each

others_fall : (n : ℕ) (t q : List ℕ) → Masks t q → nonzeros (take n (drop 5 t)) ≤ nonzeros (take n (drop 5 q))
others_fall n t q m =
    let h = masks_before n (drop 5 t) (drop 5 q) (masks_after 5 t q m) in
    nonzeros_fall (take n (drop 5 t)) (take n (drop 5 q)) h.long h.each

shorter : (t q : List ℕ) → Masks t q → nonzeros (take (size_of (length_in t) - 5) (drop 5 t)) ≤ nonzeros (take (size_of (length_in q) - 5) (drop 5 t))
shorter t q m =
    let le = size_grows (length_in t) (length_in q) (length_falls t q m) in
    nonzeros_front (size_of (length_in t) - 5) (size_of (length_in q) - 5) (drop 5 t) (omega (arith, le))

pub found_falls : (t q : List ℕ) → Masks t q → found_in t ≤ found_in q
unfolding found_in
found_falls t q m =
    let n = size_of (length_in q) - 5 in
    omega (arith, first_falls t q m, others_fall n t q m, shorter t q m)

pub weight_falls : (t q : List ℕ) → Masks t q → weight t ≤ weight q
unfolding weight
weight_falls t q m = omega (arith, count_falls t q m, found_falls t q m)

three_parts : (n : ℕ) (t q : List ℕ) → take 1 t ≡ take 1 q → take 4 (drop 1 t) ≡ take 4 (drop 1 q) → take n (drop 5 t) ≡ take n (drop 5 q) → take (5 + n) t ≡ take (5 + n) q
three_parts n t q a b c =
    let five : take 5 t ≡ take 5 q = take-add 1 4 t ∙ ap (λ (x : List ℕ). x ++ take 4 (drop 1 t)) a ∙ ap (λ (x : List ℕ). take 1 q ++ x) b ∙ sym (take-add 1 4 q) in
    take-add 5 n t ∙ ap (λ (x : List ℕ). x ++ take n (drop 5 t)) five ∙ ap (λ (x : List ℕ). take 5 q ++ x) c ∙ sym (take-add 5 n q)

-- where nothing is missing, nothing was lost
pub weight_same : (t q : List ℕ) → Masks t q → weight t ≡ weight q → take (size_of (length_in q)) t ≡ take (size_of (length_in q)) q
unfolding weight found_in count_in
weight_same t q m s =
    let n = size_of (length_in q) - 5 in
    let c = word_falls (drop 1 t) (drop 1 q) (masks_after 1 t q m) in
    let a = first_falls t q m in
    let b = others_fall n t q m in
    let d = shorter t q m in
    let one = masks_before 1 t q m in
    let more = masks_before n (drop 5 t) (drop 5 q) (masks_after 5 t q m) in
    let first = nonzeros_same (take 1 t) (take 1 q) one.long one.each (omega (arith, s, a, b, c, d)) in
    let counts = word_same (drop 1 t) (drop 1 q) (masks_after 1 t q m) (omega (arith, s, a, b, c, d)) in
    let others = nonzeros_same (take n (drop 5 t)) (take n (drop 5 q)) more.long more.each (omega (arith, s, a, b, c, d)) in
    let wide : 5 + n ≡ size_of (length_in q) = omega arith in
    subst (λ (k : ℕ). take k t ≡ take k q) wide (three_parts n t q first counts others)

pub mark_falls : (a b : ℕ) → (a ≡ 0) ⊎ (a ≡ b) → IsFurtherMark b → IsFurtherMark a
mark_falls a b (inl z) mark = inl z
mark_falls a b (inr e) mark = subst IsFurtherMark (sym e) mark

-- of what a loss leaves of it no more is taken
pub open_falls : (t q : List ℕ) → Masks t q → IsOpen q → IsOpen t
open_falls t q m is = record {
  missing = λ long. omega (arith, weight_falls t q m, is.missing (omega (arith, long, m.long)));
  first = omega (arith, mask_falls t q m 0, is.first);
  others = λ k some lt. mark_falls _ _ (m.each (512 * k)) (is.others k some (omega (arith, lt, m.long)));
}
