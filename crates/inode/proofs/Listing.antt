-- Lists of what a function gives at numbers in a row.
use Rattle.std.proofs.Common.{◌≡◌, ℕ, ◌+◌, ◌-◌, ◌<◌, ◌≤◌, min, List, ◌++◌, length, get_or, take, drop, inl, inr, refl, ap, sym, ◌∙◌, arith}
use Rattle.std.proofs.lemmas.List.{ext_get_or, get_or_append_left, get_or-append_right, get_or-take, get_or-drop, length-append, length-take, length-drop, get_or_past}
use Rattle.std.proofs.lemmas.List.FromFn.{length-map-range_with_len, get_or-map-range_with_len}
use Rattle.std.proofs.lemmas.Bool.{cases_lt}
use Rattle.inode.specs.Contents.{listed}

pub listed-length : (f : ℕ → ℕ) (first count : ℕ) → length (listed f first count) ≡ count
unfolding listed
listed-length f first count = length-map-range_with_len f first count

pub listed-at : (f : ℕ → ℕ) (first count i j d : ℕ) → i < count → first + i ≡ j → get_or (listed f first count) i d ≡ f j
unfolding listed
listed-at f first count i j d lt e = get_or-map-range_with_len f first count i j d lt e

pub listed-past : (f : ℕ → ℕ) (first count i d : ℕ) → count ≤ i → get_or (listed f first count) i d ≡ d
listed-past f first count i d le = let e : length (listed f first count) ≡ count = listed-length f first count in get_or_past (listed f first count) i d (omega arith)

-- a list is what its elements say
pub listed-is : (f : ℕ → ℕ) (first count : ℕ) (xs : List ℕ) → length xs ≡ count → ((i : ℕ) → i < count → get_or xs i 0 ≡ f (first + i)) → xs ≡ listed f first count
listed-is f first count xs len each =
    ext_get_or 0 xs (listed f first count) (len ∙ sym (listed-length f first count))
    (λ i lt. let below : i < count = omega arith in each i below ∙ sym (listed-at f first count i (first + i) 0 below refl))

pub listed-same : (f g : ℕ → ℕ) (first second count : ℕ) → ((i : ℕ) → i < count → f (first + i) ≡ g (second + i)) → listed f first count ≡ listed g second count
listed-same f g first second count each =
    listed-is g second count (listed f first count) (listed-length f first count) (λ i lt. listed-at f first count i (first + i) 0 lt refl ∙ each i lt)

-- a list is its own elements
pub listed-of : (xs : List ℕ) (count : ℕ) → length xs ≡ count → xs ≡ listed (λ n. get_or xs n 0) 0 count
listed-of xs count len = listed-is (λ n. get_or xs n 0) 0 count xs len (λ i lt. ap (λ j. get_or xs j 0) (omega arith))

listed-join_at : (f : ℕ → ℕ) (first count next more : ℕ) → first + count ≡ next → (i : ℕ) → i < count + more → get_or (listed f first count ++ listed f next more) i 0 ≡ f (first + i)
listed-join_at f first count next more e i lt =
    let one : length (listed f first count) ≡ count = listed-length f first count in
    elim (cases_lt i count) [
      | inl below ↦ get_or_append_left (listed f first count) (listed f next more) 0 i (omega arith) ∙ listed-at f first count i (first + i) 0 below refl
      | inr past ↦
          get_or-append_right (listed f first count) (listed f next more) count i 0 one past
          ∙ listed-at f next more (i - count) (first + i) 0 (omega arith) (omega arith)
    ]

-- two lists in a row are one
pub listed-join : (f : ℕ → ℕ) (first count next more : ℕ) → first + count ≡ next → listed f first count ++ listed f next more ≡ listed f first (count + more)
listed-join f first count next more e =
    let one : length (listed f first count) ≡ count = listed-length f first count in
    let two : length (listed f next more) ≡ more = listed-length f next more in
    listed-is f first (count + more) (listed f first count ++ listed f next more) (length-append (listed f first count) (listed f next more) ∙ omega arith)
    (λ i lt. listed-join_at f first count next more e i lt)

-- a part of a list
pub listed-between : (f : ℕ → ℕ) (first count skip n m : ℕ) → first + skip ≡ m → skip + n ≤ count → take n (drop skip (listed f first count)) ≡ listed f m n
listed-between f first count skip n m e le =
    let all : length (listed f first count) ≡ count = listed-length f first count in
    listed-is f m n (take n (drop skip (listed f first count))) (length-take n (drop skip (listed f first count)) ∙ ap (min n) (length-drop skip (listed f first count)) ∙ omega arith)
    (λ i lt. get_or-take n (drop skip (listed f first count)) i 0 lt ∙ get_or-drop skip (listed f first count) i 0 ∙ listed-at f first count (skip + i) (m + i) 0 (omega arith) (omega arith))
