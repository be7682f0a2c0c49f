-- A frame that begins to pass a test joins the numbers at its place, and finds it in a list by descending number.
use Rattle.std.proofs.Common.{◌≡◌, ◌≢◌, inl, inr, ℕ, zero, suc, ◌+◌, ◌<◌, ◌≤◌, Bool, true, false, nat_lt, List, [], ◌∷◌, ◌++◌, length, reverse, set, get_or, refl, sym, ap, subst, ◌∙◌, append_assoc, arith}
use Rattle.std.specs.List.{AllByRecursion, insert}
use Rattle.std.specs.List.Sorted.{IsPartitionPoint, IsPartitionedBy}
use Rattle.std.proofs.lemmas.Bool.{cases_Bool, lt-ltb, ltb-true}
use Rattle.std.proofs.lemmas.List.{reverse-append}
use Rattle.segment_word.specs.Frames.{Frame}
use Rattle.segment_word.specs.Layout.{frame_at}
use Rattle.segment_table.specs.Room.{numbers}
use Rattle.segment_table.specs.private.Putting.{IsPutBetween}
use Rattle.segment_table.proofs.Numbers.{numbers_in, numbers_out}
use Rattle.segment_table.proofs.Ahead.{numbers_few}

pub all_others : (m : ℕ) (l : List ℕ) → AllByRecursion (λ y. m < y) l → AllByRecursion (λ y. y ≢ m) l
all_others m [] a = tt
all_others m (y ∷ l) a = ((λ e. let h : m < y = a.0 in omega arith), all_others m l a.1)

module _ (test : Frame → Bool) where
  -- all numbers are at least the first one
  least : (m n : ℕ) (ks : List Frame) → m < n → AllByRecursion (λ x. m < x) (numbers test n ks)
  least m n [] low = tt
  least m n (k ∷ ks) low = elim (cases_Bool (test k)) [
    | inl t ↦ subst (AllByRecursion (λ x. m < x)) (sym (numbers_in test n k ks t)) (low, least m (n + 1) ks (omega arith))
    | inr t ↦ subst (AllByRecursion (λ x. m < x)) (sym (numbers_out test n k ks t)) (least m (n + 1) ks (omega arith))
  ]

  -- the numbers before and after that of frame f, which didn't pass and now does
  pub record JoinsAt (n f : ℕ) (ks : List Frame) (k : Frame) : Type 0 where
    pub lower : List ℕ
    pub higher : List ℕ
    pub was : numbers test n ks ≡ lower ++ higher
    pub now : numbers test n (set ks f k) ≡ lower ++ (n + f) ∷ higher
    pub below : AllByRecursion (λ x. x < n + f) lower
    pub above : AllByRecursion (λ x. n + f < x) higher

  pub joins_at : (n f : ℕ) (ks : List Frame) (k : Frame) → f < length ks → test (frame_at ks f) ≡ false → test k ≡ true → JoinsAt n f ks k
  joins_at n f [] k h before after = absurd (omega arith)
  joins_at n zero (x ∷ ks) k h before after = record {
    lower = [];
    higher = numbers test (n + 1) ks;
    was = numbers_out test n x ks before;
    now = numbers_in test n k ks after ∙ ap (λ (m : ℕ). m ∷ numbers test (n + 1) ks) (omega arith);
    below = tt;
    above = least (n + 0) (n + 1) ks (omega arith);
  }
  joins_at n (suc f) (x ∷ ks) k h before after =
      let r : JoinsAt (n + 1) f ks k = joins_at (n + 1) f ks k (omega arith) before after in
      let e : n + 1 + f ≡ n + suc f = omega arith in
      let now : numbers test (n + 1) (set ks f k) ≡ r.lower ++ (n + suc f) ∷ r.higher = r.now ∙ ap (λ (m : ℕ). r.lower ++ m ∷ r.higher) e in
      let below : AllByRecursion (λ y. y < n + suc f) r.lower = subst (λ (m : ℕ). AllByRecursion (λ y. y < m) r.lower) e r.below in
      let above : AllByRecursion (λ y. n + suc f < y) r.higher = subst (λ (m : ℕ). AllByRecursion (λ y. m < y) r.higher) e r.above in
      elim (cases_Bool (test x)) [
        | inl t ↦ record {
          lower = n ∷ r.lower;
          higher = r.higher;
          was = numbers_in test n x ks t ∙ ap (λ (l : List ℕ). n ∷ l) r.was;
          now = numbers_in test n x (set ks f k) t ∙ ap (λ (l : List ℕ). n ∷ l) now;
          below = (omega arith, below);
          above = above;
        }
        | inr t ↦ record {
          lower = r.lower;
          higher = r.higher;
          was = numbers_out test n x ks t ∙ r.was;
          now = numbers_out test n x (set ks f k) t ∙ now;
          below = below;
          above = above;
        }
      ]

  -- the same, counted from 0
  pub record Joins (f : ℕ) (ks : List Frame) (k : Frame) : Type 0 where
    pub lower : List ℕ
    pub higher : List ℕ
    pub was : numbers test 0 ks ≡ lower ++ higher
    pub now : numbers test 0 (set ks f k) ≡ lower ++ f ∷ higher
    pub below : AllByRecursion (λ x. x < f) lower
    pub above : AllByRecursion (λ x. f < x) higher

  pub joins : (f : ℕ) (ks : List Frame) (k : Frame) → f < length ks → test (frame_at ks f) ≡ false → test k ≡ true → Joins f ks k
  joins f ks k h before after =
      let r : JoinsAt 0 f ks k = joins_at 0 f ks k h before after in
      let e : 0 + f ≡ f = omega arith in
      record {
        lower = r.lower;
        higher = r.higher;
        was = r.was;
        now = r.now ∙ ap (λ (m : ℕ). r.lower ++ m ∷ r.higher) e;
        below = subst (λ (m : ℕ). AllByRecursion (λ x. x < m) r.lower) e r.below;
        above = subst (λ (m : ℕ). AllByRecursion (λ x. m < x) r.higher) e r.above;
      }

  -- where one frame doesn't pass, they are fewer than the frames
  pub numbers_fewer : (n f : ℕ) (ks : List Frame) → f < length ks → test (frame_at ks f) ≡ false → length (numbers test n ks) < length ks
  numbers_fewer n f [] h t = absurd (omega arith)
  numbers_fewer n zero (x ∷ ks) h t = let few = numbers_few test (n + 1) ks in let e = ap length (numbers_out test n x ks t) in omega arith
  numbers_fewer n (suc f) (x ∷ ks) h t =
      let few = numbers_fewer (n + 1) f ks (omega arith) t in
      elim (cases_Bool (test x)) [
        | inl p ↦ let e = ap length (numbers_in test n x ks p) in omega arith
        | inr p ↦ let e = ap length (numbers_out test n x ks p) in omega arith
      ]

  -- a frame that doesn't pass isn't among them
  pub numbers_apart_from : (n f : ℕ) (ks : List Frame) → test (frame_at ks f) ≡ false → AllByRecursion (λ x. x ≢ n + f) (numbers test n ks)
  numbers_apart_from n f [] t = tt
  numbers_apart_from n zero (x ∷ ks) t = subst (AllByRecursion (λ y. y ≢ n + 0)) (sym (numbers_out test n x ks t)) (all_others (n + 0) (numbers test (n + 1) ks) (least (n + 0) (n + 1) ks (omega arith)))
  numbers_apart_from n (suc f) (x ∷ ks) t =
      let r : AllByRecursion (λ y. y ≢ n + suc f) (numbers test (n + 1) ks) = subst (λ (m : ℕ). AllByRecursion (λ y. y ≢ m) (numbers test (n + 1) ks)) (omega arith) (numbers_apart_from (n + 1) f ks t) in
      elim (cases_Bool (test x)) [
        | inl p ↦ subst (AllByRecursion (λ y. y ≢ n + suc f)) (sym (numbers_in test n x ks p)) ((λ e. omega arith), r)
        | inr p ↦ subst (AllByRecursion (λ y. y ≢ n + suc f)) (sym (numbers_out test n x ks p)) r
      ]

pub apart_from : (test : Frame → Bool) (f : ℕ) (ks : List Frame) → test (frame_at ks f) ≡ false → AllByRecursion (λ x. x ≢ f) (numbers test 0 ks)
apart_from test f ks t = subst (λ (m : ℕ). AllByRecursion (λ x. x ≢ m) (numbers test 0 ks)) (omega arith) (numbers_apart_from test 0 f ks t)

one_less : (f : ℕ) (lower : List ℕ) (j d : ℕ) → AllByRecursion (λ n. n < f) lower → j < length lower → get_or lower j d < f
one_less f [] j d a h = absurd (omega arith)
one_less f (y ∷ l) zero d a h = a.0
one_less f (y ∷ l) (suc j) d a h = one_less f l j d a.1 (omega arith)

not_below : (f y : ℕ) → y < f → nat_lt f y ≡ true → ⊥
not_below f y low t = let h : f < y = ltb-true f y t in omega arith

-- what the search asks of a list where all that are greater than f are before all that are less
pub parted : (f : ℕ) (higher lower : List ℕ) → AllByRecursion (λ n. f < n) higher → AllByRecursion (λ n. n < f) lower → IsPartitionedBy (λ n. nat_lt f n) (higher ++ lower)
parted f [] lower a b i j d le h t = absurd (not_below f (get_or lower j d) (one_less f lower j d b h) t)
parted f (x ∷ xs) lower a b zero j d le h t = lt-ltb f x a.0
parted f (x ∷ xs) lower a b (suc i) zero d le h t = absurd (omega arith)
parted f (x ∷ xs) lower a b (suc i) (suc j) d le h t = parted f xs lower a.1 b i j d (omega arith) (omega arith) t

-- and what it finds
pub place_is : (f : ℕ) (higher lower : List ℕ) (i : ℕ) → AllByRecursion (λ n. f < n) higher → AllByRecursion (λ n. n < f) lower → i ≤ length (higher ++ lower)
    → IsPartitionPoint (λ n. nat_lt f n ≡ true) (λ n. nat_lt f n ≡ false) (higher ++ lower) i → i ≡ length higher
place_is f [] lower zero a b h at = refl
place_is f [] [] (suc i) a b h at = absurd (omega arith)
place_is f [] (y ∷ ys) (suc i) a b h at = absurd (not_below f y b.0 (at.0 0 0 (omega arith) (omega arith)))
place_is f (x ∷ xs) lower zero a b h at = absurd (let t : nat_lt f x ≡ true = lt-ltb f x a.0 in let e : nat_lt f x ≡ false = at.1 0 0 (omega arith) (omega arith) in cc)
place_is f (x ∷ xs) lower (suc i) a b h at =
    ap suc (place_is f xs lower i a.1 b (omega arith) ((λ k d low high. at.0 (suc k) d (omega arith) (omega arith)), λ k d low high. at.1 (suc k) d (omega arith) (omega arith)))

pub inserted : (f : ℕ) (higher lower : List ℕ) → insert (higher ++ lower) (length higher) f ≡ higher ++ f ∷ lower
inserted f [] lower = refl
inserted f (x ∷ xs) lower = ap (λ (l : List ℕ). x ∷ l) (inserted f xs lower)

-- the two parts the other way round
pub all_last : (P : ℕ → Type 0) (l : List ℕ) (x : ℕ) → AllByRecursion P l → P x → AllByRecursion P (l ++ x ∷ [])
all_last P [] x a h = (h, tt)
all_last P (y ∷ l) x a h = (a.0, all_last P l x a.1 h)

pub all_back : (P : ℕ → Type 0) (l : List ℕ) → AllByRecursion P l → AllByRecursion P (reverse l)
all_back P [] a = tt
all_back P (x ∷ l) a = subst (AllByRecursion P) (sym (reverse-append (x ∷ []) l)) (all_last P (reverse l) x (all_back P l a.1) a.0)

-- a list by descending number, with a number put back at its place
pub put_back_is : (free free' lower higher : List ℕ) (f : ℕ) → free ≡ reverse (lower ++ higher) → AllByRecursion (λ n. n < f) lower → AllByRecursion (λ n. f < n) higher
    → IsPutBetween f free free'
    → free' ≡ reverse (lower ++ f ∷ higher)
put_back_is free free' lower higher f e below above put =
    put (reverse higher) (reverse lower) (e ∙ reverse-append lower higher) (all_back (λ n. f < n) higher above) (all_back (λ n. n < f) lower below)
    ∙ sym (reverse-append lower (f ∷ higher) ∙ ap (λ (l : List ℕ). l ++ reverse lower) (reverse-append (f ∷ []) higher) ∙ append_assoc (reverse higher) (f ∷ []) (reverse lower))
