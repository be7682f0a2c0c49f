-- A record that was written whole is read, and what is read of one of which bytes were lost.
use Rattle.std.proofs.Common.{◌≡◌, ◌⊎◌, inl, inr, ℕ, zero, suc, ◌+◌, ◌-◌, ◌*◌, ◌^◌, ◌<◌, ◌≤◌, List, [], ◌∷◌, ◌++◌, length, take, drop, slice_index, refl, sym, ap, subst, ◌∙◌, arith, append_assoc, length-append, length-drop, ext_get_or}
use Rattle.std.proofs.lemmas.Bool.{cases_lt}
use Rattle.std.proofs.lemmas.List.{drop_at, take_all, take_at, drop-append-le, drop-drop, length-take, take-append-drop, get_or-drop, get_or_append_left, get_or-take, get_or-append_right, get_or-replicate, get_or_past}
use Rattle.std.proofs.lemmas.Nat.{from_be_bytes-to_be_bytes_4, from_be_bytes-to_be_bytes_8}
use Rattle.sha2.proofs.Facts256.{length-sha256}
use Rattle.update_log.specs.declared.places.Place.{Place}
use Rattle.update_log.specs.Sectors.{further, further_count, further_in, laid, padded, size_of, zeros}
use Rattle.update_log.specs.Records.{Entry, IsEntry, body, chain, content, long, nonzeros, numbers, record_bytes, word}
use Rattle.update_log.specs.Tails.{IsFurtherMark, IsOpen, Masks, count_in, entry_in, found_in, length_in, limit_in, long_in, payload_in, weight, word_in}
use Rattle.update_log.proofs.Nonzeros.{nonzeros_few, nonzeros_within, nonzeros_after, nonzeros_zeros}
use Rattle.update_log.proofs.Masking.{mark_falls, mask_falls, masks_after, weight_falls, weight_same}
use Rattle.update_log.proofs.Laying.{further_again, further_length, further_marks}

-- ---- lengths

pub zeros_length : (n : ℕ) → length (zeros n) ≡ n
zeros_length zero = refl
zeros_length (suc n) = ap suc (zeros_length n)

abbrev filler : Place → Entry → List ℕ
filler p e = padded (further_count (length e.payload)) (content p e)

numbers_length : (p : Place) (e : Entry) → length (numbers p e) ≡ 20
unfolding numbers long word
numbers_length p e = refl

chain_length : (p : Place) (e : Entry) → length (chain p e) ≡ 32
unfolding chain
chain_length p e = length-sha256 _

content_length : (p : Place) (e : Entry) → length (content p e) ≡ 52 + length e.payload
unfolding content
content_length p e = omega (arith, numbers_length p e, chain_length p e, length-append (numbers p e) (chain p e ++ e.payload), length-append (chain p e) e.payload)

filler_length : (p : Place) (e : Entry) → length (filler p e) ≡ 507 + 511 * further_count (length e.payload)
unfolding padded
filler_length p e =
    let n = further_count (length e.payload) in
    let z = 507 + 511 * n - length (content p e) in
    omega (arith, content_length p e, length-append (content p e) (zeros z), zeros_length z)

first_length : (p : Place) (e : Entry) → length (take 507 (filler p e)) ≡ 507
first_length p e = omega (arith, filler_length p e, length-take 507 (filler p e))

others_length : (p : Place) (e : Entry) → length (drop 507 (filler p e)) ≡ 511 * further_count (length e.payload)
others_length p e = omega (arith, filler_length p e, length-drop 507 (filler p e))

abbrev others_of : Place → Entry → List ℕ
others_of p e = further (further_count (length e.payload)) (drop 507 (filler p e))

others_size : (p : Place) (e : Entry) → length (others_of p e) ≡ 512 * further_count (length e.payload)
others_size p e = further_length (further_count (length e.payload)) (drop 507 (filler p e)) (others_length p e)

pub body_length : (p : Place) (e : Entry) → length (body p e) ≡ size_of (length e.payload) - 5
unfolding body laid
body_length p e = omega (arith, first_length p e, others_size p e, length-append (take 507 (filler p e)) (others_of p e))

pub record_length : (p : Place) (e : Entry) → length (record_bytes p e) ≡ size_of (length e.payload)
unfolding record_bytes word
record_length p e = omega (arith, body_length p e)

-- ---- what is read of it

abbrev count_of : Place → Entry → ℕ
count_of p e = 2 ^ 32 - 2 - nonzeros (body p e)

few : (p : Place) (e : Entry) → IsEntry e → nonzeros (body p e) ≤ 2 ^ 25
few p e is = omega (arith, nonzeros_few (body p e), body_length p e, is.small)

count_again : (p : Place) (e : Entry) (rest : List ℕ) → count_in (record_bytes p e ++ rest) ≡ count_of p e
unfolding count_in word_in record_bytes word
count_again p e rest = from_be_bytes-to_be_bytes_4 (count_of p e) (omega arith)

after_count : (p : Place) (e : Entry) (rest : List ℕ) → drop 5 (record_bytes p e ++ rest) ≡ body p e ++ rest
unfolding record_bytes word
after_count p e rest = refl

pub limit_again : (p : Place) (e : Entry) (rest : List ℕ) → IsEntry e → limit_in (record_bytes p e ++ rest) ≡ e.limit
unfolding limit_in long_in record_bytes word body laid padded content numbers long
limit_again p e rest is = from_be_bytes-to_be_bytes_8 e.limit is.limit

pub length_again : (p : Place) (e : Entry) (rest : List ℕ) → IsEntry e → length_in (record_bytes p e ++ rest) ≡ length e.payload
unfolding length_in word_in record_bytes word body laid padded content numbers long
length_again p e rest is = from_be_bytes-to_be_bytes_4 (length e.payload) (omega (arith, is.small))

-- the first sector, and those after it
in_sectors : (p : Place) (e : Entry) (rest : List ℕ) → drop 5 (record_bytes p e ++ rest) ≡ take 507 (filler p e) ++ (others_of p e ++ rest)
unfolding body laid
in_sectors p e rest = after_count p e rest ∙ append_assoc (take 507 (filler p e)) (others_of p e) rest

after_first : (p : Place) (e : Entry) (rest : List ℕ) → drop 512 (record_bytes p e ++ rest) ≡ others_of p e ++ rest
after_first p e rest =
    sym (drop-drop 507 5 (record_bytes p e ++ rest)) ∙ ap (λ (x : List ℕ). drop 507 x) (in_sectors p e rest) ∙ drop_at (take 507 (filler p e)) (others_of p e ++ rest) 507 (first_length p e)

first_payload : (p : Place) (e : Entry) (rest : List ℕ) → take 455 (drop 57 (record_bytes p e ++ rest)) ≡ drop 52 (take 507 (filler p e))
first_payload p e rest =
    let a = take 507 (filler p e) in
    let r = others_of p e ++ rest in
    let wide : length (drop 52 a) ≡ 455 = omega (arith, first_length p e, length-drop 52 a) in
    ap (λ (x : List ℕ). take 455 x)
    (sym (drop-drop 52 5 (record_bytes p e ++ rest)) ∙ ap (λ (x : List ℕ). drop 52 x) (in_sectors p e rest) ∙ drop-append-le 52 a r (omega (arith, first_length p e)))
    ∙ take_at (drop 52 a) r 455 wide

other_payload : (p : Place) (e : Entry) (rest : List ℕ) → further_in (further_count (length e.payload)) (drop 512 (record_bytes p e ++ rest)) ≡ drop 507 (filler p e)
other_payload p e rest =
    let n = further_count (length e.payload) in
    ap (λ (x : List ℕ). further_in n x) (after_first p e rest) ∙ further_again n (drop 507 (filler p e)) rest (others_length p e)

joined : (n : ℕ) (xs : List ℕ) → n ≤ 507 → 507 ≤ length xs → drop n (take 507 xs) ++ drop 507 xs ≡ drop n xs
joined n xs le long = sym (drop-append-le n (take 507 xs) (drop 507 xs) (omega (arith, le, long, length-take 507 xs))) ∙ ap (λ (x : List ℕ). drop n x) (take-append-drop 507 xs)

after_numbers : (p : Place) (e : Entry) → drop 52 (filler p e) ≡ e.payload ++ zeros (507 + 511 * further_count (length e.payload) - length (content p e))
unfolding padded content
after_numbers p e =
    let z = zeros (507 + 511 * further_count (length e.payload) - length (numbers p e ++ (chain p e ++ e.payload))) in
    let front : length (numbers p e ++ chain p e) ≡ 52 = omega (arith, numbers_length p e, chain_length p e, length-append (numbers p e) (chain p e)) in
    ap (λ (x : List ℕ). drop 52 (x ++ z)) (sym (append_assoc (numbers p e) (chain p e) e.payload))
    ∙ ap (λ (x : List ℕ). drop 52 x) (append_assoc (numbers p e ++ chain p e) e.payload z) ∙ drop_at (numbers p e ++ chain p e) (e.payload ++ z) 52 front

pub payload_again : (p : Place) (e : Entry) (rest : List ℕ) → IsEntry e → payload_in (record_bytes p e ++ rest) ≡ e.payload
unfolding payload_in
payload_again p e rest is =
    let t = record_bytes p e ++ rest in
    let z = zeros (507 + 511 * further_count (length e.payload) - length (content p e)) in
    ap (λ (n : ℕ). take n (take 455 (drop 57 t) ++ further_in (further_count n) (drop 512 t))) (length_again p e rest is)
    ∙ ap (λ (x : List ℕ). take (length e.payload) (x ++ further_in (further_count (length e.payload)) (drop 512 t))) (first_payload p e rest)
    ∙ ap (λ (x : List ℕ). take (length e.payload) (drop 52 (take 507 (filler p e)) ++ x)) (other_payload p e rest)
    ∙ ap (λ (x : List ℕ). take (length e.payload) x) (joined 52 (filler p e) (omega arith) (omega (arith, filler_length p e)) ∙ after_numbers p e)
    ∙ take_at e.payload z (length e.payload) refl

made_entry : ℕ → List ℕ → Entry
made_entry limit payload = record { limit = limit; payload = payload }

same_entry : (a b : ℕ) (xs ys : List ℕ) → a ≡ b → xs ≡ ys → made_entry a xs ≡ made_entry b ys
same_entry a b xs ys p q = cc

pub entry_again : (p : Place) (e : Entry) (rest : List ℕ) → IsEntry e → entry_in (record_bytes p e ++ rest) ≡ e
unfolding entry_in made_entry
entry_again p e rest is = same_entry _ e.limit _ e.payload (limit_again p e rest is) (payload_again p e rest is)

first_one : (p : Place) (e : Entry) (rest : List ℕ) → nonzeros (take 1 (record_bytes p e ++ rest)) ≡ 1
unfolding record_bytes
first_one p e rest = omega arith

pub found_again : (p : Place) (e : Entry) (rest : List ℕ) → IsEntry e → found_in (record_bytes p e ++ rest) ≡ 1 + nonzeros (body p e)
unfolding found_in
found_again p e rest is =
    let t = record_bytes p e ++ rest in
    let others : take (size_of (length_in t) - 5) (drop 5 t) ≡ body p e =
    ap (λ (n : ℕ). take (size_of n - 5) (drop 5 t)) (length_again p e rest is)
    ∙ ap (λ (x : List ℕ). take (size_of (length e.payload) - 5) x) (after_count p e rest)
    ∙ take_at (body p e) rest (size_of (length e.payload) - 5) (body_length p e) in
    omega (arith, first_one p e rest, ap nonzeros others)

-- a record that was written whole misses nothing
pub weight_again : (p : Place) (e : Entry) (rest : List ℕ) → IsEntry e → weight (record_bytes p e ++ rest) ≡ 2 ^ 32 - 1
unfolding weight
weight_again p e rest is = omega (arith, count_again p e rest, found_again p e rest is, few p e is)

-- ---- a record, and zeros after it

pub zero_at : (n i : ℕ) → slice_index (zeros n) i ≡ 0
zero_at n i = elim (cases_lt i n) [
  | inl lt ↦ get_or-replicate n i 0 0 lt
  | inr le ↦ get_or_past (zeros n) i 0 (omega (arith, le, zeros_length n))
]

pub marks_again : (p : Place) (e : Entry) (z k : ℕ) → 0 < k → IsFurtherMark (slice_index (record_bytes p e ++ zeros z) (512 * k))
marks_again p e z zero some = absurd (omega (arith, some))
marks_again p e z (suc k) some =
    let n = further_count (length e.payload) in
    let t = record_bytes p e ++ zeros z in
    let at : 512 * suc k ≡ 512 + 512 * k = omega arith in
    let so : slice_index t (512 * suc k) ≡ slice_index (others_of p e ++ zeros z) (512 * k) =
    ap (λ (i : ℕ). slice_index t i) at ∙ sym (get_or-drop 512 t (512 * k) 0) ∙ ap (λ (x : List ℕ). slice_index x (512 * k)) (after_first p e (zeros z)) in
    elim (cases_lt k n) [
      | inl lt ↦ inr (so ∙ get_or_append_left (others_of p e) (zeros z) 0 (512 * k) (omega (arith, lt, others_size p e)) ∙ further_marks n k (drop 507 (filler p e)) (others_length p e) lt)
      | inr le ↦ inl (so ∙ get_or-append_right (others_of p e) (zeros z) (512 * n) (512 * k) 0 (others_size p e) (omega (arith, le)) ∙ zero_at z (512 * k - 512 * n))
    ]

-- a tail of zeros
zero_after : (n z i : ℕ) → slice_index (drop n (zeros z)) i ≡ 0
zero_after n z i = get_or-drop n (zeros z) i 0 ∙ zero_at z (n + i)

zero_before : (n : ℕ) (t : List ℕ) → ((i : ℕ) → slice_index t i ≡ 0) → (i : ℕ) → slice_index (take n t) i ≡ 0
zero_before n t z i = elim (cases_lt i n) [
  | inl lt ↦ get_or-take n t i 0 lt ∙ z i
  | inr le ↦ get_or_past (take n t) i 0 (omega (arith, le, length-take n t))
]

word_zero : (t : List ℕ) → ((i : ℕ) → slice_index t i ≡ 0) → word_in t ≡ 0
unfolding word_in
word_zero t z =
    let f = zero_before 4 t z in
    omega (arith, f 0, f 1, f 2, f 3)

found_zero : (z : ℕ) → found_in (zeros z) ≡ 0
unfolding found_in
found_zero z =
    let t = zeros z in
    omega (arith, nonzeros_zeros z, nonzeros_within 1 t, nonzeros_within (size_of (length_in t) - 5) (drop 5 t), nonzeros_after 5 t)

weight_zero : (z : ℕ) → weight (zeros z) ≡ 0
unfolding weight count_in
weight_zero z = omega (arith, found_zero z, word_zero (drop 1 (zeros z)) (zero_after 1 z))

pub zeros_open : (z : ℕ) → IsOpen (zeros z)
zeros_open z = record {
  missing = λ _. omega (arith, weight_zero z);
  first = omega (arith, zero_at z 0);
  others = λ k some lt. inl (zero_at z (512 * k));
}

-- ---- a record of which bytes may be lost

pub first_mark : (p : Place) (e : Entry) (rest : List ℕ) → slice_index (record_bytes p e ++ rest) 0 ≡ 1
unfolding record_bytes
first_mark p e rest = refl

zeros_of : (t : List ℕ) (z : ℕ) → Masks t (zeros z) → t ≡ zeros z
zeros_of t z m = ext_get_or 0 t (zeros z) m.long (λ i lt. elim (m.each i) [
  | inl o ↦ o ∙ sym (zero_at z i)
  | inr e ↦ e
])

whole_again : (p : Place) (e : Entry) (z : ℕ) (t : List ℕ) → IsEntry e → Masks t (record_bytes p e ++ zeros z) → weight t ≡ weight (record_bytes p e ++ zeros z) → t ≡ record_bytes p e ++ zeros z
whole_again p e z t is m w =
    let r = record_bytes p e in
    let zs = zeros z in
    let n = size_of (length e.payload) in
    let l : length_in (r ++ zs) ≡ length e.payload = length_again p e zs is in
    let front : take n t ≡ r = subst (λ (k : ℕ). take (size_of k) t ≡ take (size_of k) (r ++ zs)) l (weight_same t (r ++ zs) m w) ∙ take_at r zs n (record_length p e) in
    let back : drop n t ≡ zs = zeros_of (drop n t) z (subst (λ (x : List ℕ). Masks (drop n t) x) (drop_at r zs n (record_length p e)) (masks_after n t (r ++ zs) m)) in
    sym (take-append-drop n t) ∙ ap (λ (x : List ℕ). x ++ drop n t) front ∙ ap (λ (x : List ℕ). r ++ x) back

lost : (p : Place) (e : Entry) (z : ℕ) (t : List ℕ) → IsEntry e → Masks t (record_bytes p e ++ zeros z) → weight t < 2 ^ 32 - 1 → IsOpen t
lost p e z t is m lt =
    let q = record_bytes p e ++ zeros z in
    record {
      missing = λ _. lt;
      first = omega (arith, mask_falls t q m 0, first_mark p e (zeros z));
      others = λ k some _. mark_falls (slice_index t (512 * k)) (slice_index q (512 * k)) (m.each (512 * k)) (marks_again p e z k some);
    }

-- Each byte of a record that was begun over zeros is its own, or zero: then it is the whole record, or none.
pub whole_or_lost : (p : Place) (e : Entry) (z : ℕ) (t : List ℕ) → IsEntry e → Masks t (record_bytes p e ++ zeros z) → (t ≡ record_bytes p e ++ zeros z) ⊎ IsOpen t
whole_or_lost p e z t is m =
    let q = record_bytes p e ++ zeros z in
    let w = weight_again p e (zeros z) is in
    elim (cases_lt (weight t) (2 ^ 32 - 1)) [
      | inl lt ↦ inr (lost p e z t is m lt)
      | inr le ↦ inl (whole_again p e z t is m (omega (arith, le, w, weight_falls t q m)))
    ]

-- ---- how it is made

pub padded_made : (n m : ℕ) (c resized given out done : List ℕ) → length c ≤ 507 + 511 * n → m ≡ length c → resized ≡ take (507 + 511 * n) c ++ zeros (507 + 511 * n - m)
    → given ≡ resized → out ≡ [] → done ≡ out ++ laid n given → done ≡ laid n (padded n c)
unfolding padded
padded_made n m c resized given out done short ms rs gs os ds =
    let all : take (507 + 511 * n) c ≡ c = take_all (507 + 511 * n) c short in
    rw (ds, os, gs, rs, all, ms) refl

pub content_room : (p : Place) (e : Entry) (c : List ℕ) (n : ℕ) → c ≡ content p e → n ≡ further_count (length e.payload) → length c ≤ 507 + 511 * n
content_room p e c n is ns = omega (arith, ap length is, content_length p e, ns)

pub body_is : (p : Place) (e : Entry) (n : ℕ) (c done : List ℕ) → n ≡ further_count (length e.payload) → c ≡ content p e → done ≡ laid n (padded n c) → done ≡ body p e
unfolding body
body_is p e n c done ns cs ds = rw (ds, cs, ns) refl

pub body_small : (p : Place) (e : Entry) (done : List ℕ) → done ≡ body p e → length e.payload ≤ 2 ^ 24 → length done ≤ 2 ^ 25
body_small p e done is small = omega (arith, ap length is, body_length p e, small)

pub record_is : (p : Place) (e : Entry) (b made : List ℕ) → b ≡ body p e → made ≡ 1 ∷ (word (2 ^ 32 - 2 - nonzeros b) ++ b) → made ≡ record_bytes p e
unfolding record_bytes
record_is p e b made is so = so ∙ ap (λ (x : List ℕ). 1 ∷ (word (2 ^ 32 - 2 - nonzeros x) ++ x)) is
