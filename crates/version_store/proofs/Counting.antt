-- How many pointers of an inode a change replaces.
use Rattle.std.proofs.Common.{◌≡◌, ℕ, zero, suc, ◌+◌, ◌-◌, ◌*◌, ◌/◌, ◌%◌, ◌<◌, ◌≤◌, ◌==◌, ◌&&◌, ltb, leb, min, max, Bool, true, false, cond, List, ◌∷◌, length, map, slice_get, get_or, Option, Some, None, IsSome, refl, sym, ap, ◌∙◌, inl, inr, ◌⊎◌, add-one, arith}
use Rattle.std.specs.Prelude.{not, is_some, ◌||◌}
use Rattle.std.specs.List.{filter, count_by, range_with_len}
use Rattle.std.proofs.lemmas.Bool.{cases_Bool, cases_lt, cases_eq, eqb-false, not-true, cond_both, cond-true, cond-false, and_parts, and_from, and_left, and_right, lt-ltb, le-ltb, le-leb, lt-leb, leb-true, ltb-true, eqb-true, eq-eqb, ne_eqb, false≢true, not_from_true, not_from_false}
use Rattle.std.proofs.lemmas.Option.{slice_get-get_or}
use Rattle.std.proofs.lemmas.List.Sums.{count_by-le-length, sum_by-cons}
use Rattle.std.proofs.lemmas.List.FromFn.{length-range_with_len}
use Rattle.s4_types.specs.Pointer.{Place}
use Rattle.s4_types.specs.declared.limits.TheConstants.{OBJECT_BLOCKS, OBJECT_BYTES}
use Rattle.block_log.specs.Log.{Stored, same_place}
use Rattle.codec.specs.Checkpoint.{pointer_at}
use Rattle.codec.specs.Entry.{same_slot}
use Rattle.codec.specs.declared.inodes.Inode.{Inode}
use Rattle.codec.specs.declared.entries.Triple.{Triple}
use Rattle.undo_redo.specs.Between.{triple_between, tells_apart, triples_below, triples_between}
use Rattle.inode.specs.Touched.{touched_count, is_touched, is_cut, cut_count}
use Rattle.inode.specs.Changed.{Written, Truncated}
use Rattle.inode.specs.Tidiness.{PointersLead}
use Rattle.undo_redo.proofs.Slots.{same_slot_itself}
use Rattle.inode.proofs.Touching.{touched_some, touched_none}
use Rattle.version_store.specs.Costs.{is_past, past_count}
use Rattle.version_store.specs.private.Below.{OnePlace}

-- ---- counts over numbers from one on

-- how many of this many numbers from one on pass a test
abbrev pub tally : (ℕ → Bool) → ℕ → ℕ → ℕ
tally f a n = count_by f (range_with_len a n)

abbrev pub bit : Bool → ℕ
bit b = cond b 1 0

tally-first : (f : ℕ → Bool) (a n : ℕ) → tally f a (suc n) ≡ bit (f a) + tally f (a + 1) n
tally-first f a n = sum_by-cons (λ k. bit (f k)) a (range_with_len (a + 1) n)

tally-same : (f g : ℕ → Bool) (a n : ℕ) → ((k : ℕ) → a ≤ k → k < a + n → f k ≡ g k) → tally f a n ≡ tally g a n
tally-same f g a zero same = refl
tally-same f g a (suc n) same =
    let first : bit (f a) ≡ bit (g a) = ap bit (same a (omega arith) (omega arith)) in
    let rest : tally f (a + 1) n ≡ tally g (a + 1) n = tally-same f g (a + 1) n (λ k le lt. same k (omega arith) (omega arith)) in
    let left = tally-first f a n in
    let right = tally-first g a n in
    omega (arith, first, rest, left, right)

tally-sum : (f g h : ℕ → Bool) (a n : ℕ) → ((k : ℕ) → a ≤ k → k < a + n → bit (h k) ≡ bit (f k) + bit (g k)) → tally h a n ≡ tally f a n + tally g a n
tally-sum f g h a zero each = refl
tally-sum f g h a (suc n) each =
    let first : bit (h a) ≡ bit (f a) + bit (g a) = each a (omega arith) (omega arith) in
    let rest : tally h (a + 1) n ≡ tally f (a + 1) n + tally g (a + 1) n = tally-sum f g h (a + 1) n (λ k le lt. each k (omega arith) (omega arith)) in
    let whole = tally-first h a n in
    let left = tally-first f a n in
    let right = tally-first g a n in
    omega (arith, first, rest, whole, left, right)

pub tally-none : (f : ℕ → Bool) (a n : ℕ) → ((k : ℕ) → a ≤ k → k < a + n → f k ≡ false) → tally f a n ≡ 0
tally-none f a zero none = refl
tally-none f a (suc n) none =
    let first : bit (f a) ≡ 0 = ap bit (none a (omega arith) (omega arith)) in
    let rest : tally f (a + 1) n ≡ 0 = tally-none f (a + 1) n (λ k le lt. none k (omega arith) (omega arith)) in
    let whole = tally-first f a n in
    omega (arith, first, rest, whole)

tally-last : (f : ℕ → Bool) (a n j : ℕ) → a + n ≡ j → tally f a (suc n) ≡ tally f a n + bit (f j)
tally-last f a zero j e =
    let same : bit (f a) ≡ bit (f j) = ap (λ k. bit (f k)) (omega (arith, e)) in
    let whole = tally-first f a 0 in
    omega (arith, same, whole)
tally-last f a (suc n) j e =
    let rest : tally f (a + 1) (suc n) ≡ tally f (a + 1) n + bit (f j) = tally-last f (a + 1) n j (omega (arith, e)) in
    let longer = tally-first f a (suc n) in
    let shorter = tally-first f a n in
    omega (arith, rest, longer, shorter)

pub tally-more : (f : ℕ → Bool) (a n j : ℕ) → a + n ≡ j → tally f a (n + 1) ≡ tally f a n + bit (f j)
tally-more f a n j e = ap (tally f a) (add-one n) ∙ tally-last f a n j e

-- the numbers from one to before another
abbrev within : ℕ → ℕ → ℕ → Bool
within low high k = leb low k && ltb k high

-- a number is among those, or before them, or past them
bit-within : (low high k : ℕ) → ((low ≤ k) × (k < high) × (bit (within low high k) ≡ 1)) ⊎ (((k < low) × (bit (within low high k) ≡ 0)) ⊎ ((high ≤ k) × (bit (within low high k) ≡ 0)))
bit-within low high k = elim (cases_lt k low) [
  | inl less ↦ inr (inl (less, ap bit (and_left (leb low k) (ltb k high) (lt-leb low k less))))
  | inr from ↦ elim (cases_lt k high) [
    | inl below ↦ inl (from, below, ap bit (and_from (leb low k) (ltb k high) (le-leb low k from) (lt-ltb k high below)))
    | inr past ↦ inr (inr (past, ap bit (and_right (leb low k) (ltb k high) (le-ltb k high past))))
  ]
]

tally-within : (low high a n : ℕ) → tally (within low high) a n ≡ min high (a + n) - max low a
tally-within low high a zero = omega arith
tally-within low high a (suc n) =
    let rest : tally (within low high) (a + 1) n ≡ min high (a + 1 + n) - max low (a + 1) = tally-within low high (a + 1) n in
    let whole = tally-first (within low high) a n in
    elim (bit-within low high a) [
      | inl among ↦ omega (arith, rest, whole, among.0, among.1, among.2)
      | inr other ↦ elim other [
        | inl before ↦ omega (arith, rest, whole, before.0, before.1)
        | inr past ↦ omega (arith, rest, whole, past.0, past.1)
      ]
    ]

pub tally_most : (f : ℕ → Bool) (n : ℕ) → tally f 0 n ≤ n
tally_most f n =
    let most : tally f 0 n ≤ length (range_with_len 0 n) = count_by-le-length f (range_with_len 0 n) in
    let all : length (range_with_len 0 n) ≡ n = length-range_with_len 0 n in
    omega (arith, most, all)

-- ---- pointers that differ

abbrev differs : Inode → Inode → ℕ → Bool
differs i j k = not (same_slot (pointer_at i k) (pointer_at j k))

-- the triples that tell pointers apart, from an index on
abbrev stretch : Inode → Inode → ℕ → ℕ → List Triple
stretch i j a n = filter tells_apart (map (triple_between i j) (range_with_len a n))

tells-first : (i j : Inode) (a n : ℕ) → length (stretch i j a (suc n)) ≡ bit (differs i j a) + length (stretch i j (a + 1) n)
tells-first i j a n =
    cond_both (differs i j a) (triple_between i j a ∷ stretch i j (a + 1) n) (stretch i j (a + 1) n)
    (λ (triples : List Triple). length triples ≡ bit (differs i j a) + length (stretch i j (a + 1) n))
    (λ is. let one : bit (differs i j a) ≡ 1 = ap bit is in omega (arith, one))
    (λ same. let none : bit (differs i j a) ≡ 0 = ap bit same in omega (arith, none))

tells : (i j : Inode) (a n : ℕ) → length (stretch i j a n) ≡ tally (differs i j) a n
tells i j a zero = refl
tells i j a (suc n) =
    let rest : length (stretch i j (a + 1) n) ≡ tally (differs i j) (a + 1) n = tells i j (a + 1) n in
    let longer = tells-first i j a n in
    let whole = tally-first (differs i j) a n in
    omega (arith, rest, longer, whole)

between_count : (i j : Inode) → length (triples_between i j) ≡ tally (differs i j) 0 OBJECT_BLOCKS
unfolding triples_between triples_below
between_count i j = tells i j 0 OBJECT_BLOCKS

not_differs : (i j : Inode) (k : ℕ) → pointer_at j k ≡ pointer_at i k → differs i j k ≡ false
not_differs i j k same = not_from_true (same_slot (pointer_at i k) (pointer_at j k)) (ap (same_slot (pointer_at i k)) same ∙ same_slot_itself (pointer_at i k))

-- a place where nothing was held is another one than each that refers to a block
fresh_slot : OnePlace → (held : Place → Option Stored) (old new : Option Place) (p : Place) → new ≡ Some p → held p ≡ None → ((q : Place) → old ≡ Some q → IsSome (held q)) → same_slot old new ≡ false
fresh_slot one held None new p is free leads = ap (same_slot None) is
fresh_slot one held (Some q) new p is free leads =
    ap (same_slot (Some q)) is
    ∙ elim (cases_Bool (same_place q p)) [
      | inl same ↦ absurd (false≢true (sym (ap is_some (ap held (one q p same) ∙ free)) ∙ leads q refl))
      | inr other ↦ other
    ]

fresh_differs : OnePlace → (held : Place → Option Stored) (i j : Inode) (k : ℕ) (p : Place) → pointer_at j k ≡ Some p → held p ≡ None → PointersLead held i → differs i j k ≡ true
fresh_differs one held i j k p is free leads = not_from_false (same_slot (pointer_at i k) (pointer_at j k)) (fresh_slot one held (pointer_at i k) (pointer_at j k) p is free (leads k))

-- ---- each kind of change

pub none_moved : (i j : Inode) → ((k : ℕ) → pointer_at j k ≡ pointer_at i k) → length (triples_between i j) ≡ 0
none_moved i j same = between_count i j ∙ tally-none (differs i j) 0 OBJECT_BLOCKS (λ k le lt. not_differs i j k (same k))

-- the places of the blocks that were appended were free
abbrev pub Fresh : (Place → Option Stored) → List Place → ℕ → Type 0
Fresh held ahead count = (n : ℕ) (p : Place) → n < count → slice_get ahead n ≡ Some p → held p ≡ None

nowhere : Place
nowhere = record { frame = 0; block = 0; generation = 0 }

-- a place ahead that a change took: it is there, and was free
taken_place : (held : Place → Option Stored) (ahead : List Place) (count n : ℕ) → n < count → count ≤ length ahead → Fresh held ahead count → (p : Place) × (slice_get ahead n ≡ Some p) × (held p ≡ None)
taken_place held ahead count n lt room fresh =
    let there : slice_get ahead n ≡ Some (get_or ahead n nowhere) = slice_get-get_or ahead n nowhere (omega arith) in
    (get_or ahead n nowhere, there, fresh n (get_or ahead n nowhere) lt there)

touched_differs : OnePlace → (held : Place → Option Stored) (ahead : List Place) (moment offset len : ℕ) (i j : Inode) (k : ℕ) → Written ahead moment offset len i j → touched_count offset len ≤ length ahead → Fresh held ahead (touched_count offset len) → PointersLead held i
    → differs i j k ≡ is_touched offset len k
touched_differs one held ahead moment offset len i j k written room fresh leads = elim (cases_Bool (is_touched offset len k)) [
  | inl is ↦
      let parts = and_parts (leb (offset / 512) k) (ltb k (offset / 512 + touched_count offset len)) is in
      let from : offset / 512 ≤ k = leb-true (offset / 512) k parts.0 in
      let below : k < offset / 512 + touched_count offset len = ltb-true k (offset / 512 + touched_count offset len) parts.1 in
      let nth : k - offset / 512 < touched_count offset len = omega (arith, from, below) in
      let place = taken_place held ahead (touched_count offset len) (k - offset / 512) nth room fresh in
      let pointer : pointer_at j k ≡ Some place.0 = written.pointers k ∙ cond-true (is_touched offset len k) (slice_get ahead (k - offset / 512)) (pointer_at i k) is ∙ place.1 in
      fresh_differs one held i j k place.0 pointer place.2 leads ∙ sym is
  | inr other ↦
      not_differs i j k (written.pointers k ∙ cond-false (is_touched offset len k) (slice_get ahead (k - offset / 512)) (pointer_at i k) other) ∙ sym other
]

-- of an object of n blocks a write within it touches this many; n is a variable, since a count up to a number is a sum of this many terms to omega
touched_tally : (offset len n : ℕ) → offset + len ≤ 512 * n → tally (is_touched offset len) 0 n ≡ touched_count offset len
touched_tally offset len n le =
    tally-within (offset / 512) (offset / 512 + touched_count offset len) 0 n
    ∙ elim (cases_lt 0 len) [
      | inl some ↦ let count = touched_some offset len some in omega (arith, count, some, le)
      | inr none ↦ let count = touched_none offset len (omega arith) in omega (arith, count)
    ]

-- a write replaces the pointers of the blocks that it touches
pub written_moves : OnePlace → (held : Place → Option Stored) (ahead : List Place) (moment offset len : ℕ) (i j : Inode) → offset + len ≤ OBJECT_BYTES → Written ahead moment offset len i j → touched_count offset len ≤ length ahead → Fresh held ahead (touched_count offset len) → PointersLead held i
    → length (triples_between i j) ≡ touched_count offset len
written_moves one held ahead moment offset len i j le written room fresh leads =
    between_count i j
    ∙ tally-same (differs i j) (is_touched offset len) 0 OBJECT_BLOCKS (λ k from below. touched_differs one held ahead moment offset len i j k written room fresh leads)
    ∙ touched_tally offset len OBJECT_BLOCKS le

-- ---- a truncation

-- the block that a truncation cuts
abbrev is_cut_at : Inode → ℕ → ℕ → Bool
is_cut_at i size k = is_cut i size && k == size / 512

-- it isn't past the size
cut_before : (i : Inode) (size k : ℕ) → is_cut_at i size k ≡ true → is_past i size k ≡ false
cut_before i size k is =
    let parts = and_parts (is_cut i size) (k == size / 512) is in
    let index : k ≡ size / 512 = eqb-true k (size / 512) parts.1 in
    let deep = and_parts (ltb size i.size) (not (size % 512 == 0) && is_some (pointer_at i (size / 512))) parts.0 in
    let inner = and_parts (not (size % 512 == 0)) (is_some (pointer_at i (size / 512))) deep.1 in
    let rest : size % 512 ≡ 0 → ⊥ = eqb-false (size % 512) 0 (not-true (size % 512 == 0) inner.0) in
    and_left (leb size (512 * k)) (is_some (pointer_at i k)) (lt-leb size (512 * k) (elim (cases_lt (512 * k) size) [ inl less ↦ less | inr past ↦ absurd (rest (omega (arith, index, past))) ]))

cut_here : (i : Inode) (size k : ℕ) → is_cut i size ≡ true → is_cut_at i size k ≡ within (size / 512) (size / 512 + 1) k
cut_here i size k is = elim (cases_eq k (size / 512)) [
  | inl e ↦ and_from (is_cut i size) (k == size / 512) is (eq-eqb k (size / 512) e) ∙ sym (and_from (leb (size / 512) k) (ltb k (size / 512 + 1)) (le-leb (size / 512) k (omega arith)) (lt-ltb k (size / 512 + 1) (omega arith)))
  | inr ne ↦ and_right (is_cut i size) (k == size / 512) (ne_eqb k (size / 512) ne)
      ∙ sym (elim (cases_lt k (size / 512)) [
        | inl less ↦ and_left (leb (size / 512) k) (ltb k (size / 512 + 1)) (lt-leb (size / 512) k less)
        | inr from ↦ and_right (leb (size / 512) k) (ltb k (size / 512 + 1)) (le-ltb k (size / 512 + 1) (elim (cases_lt (size / 512) k) [ inl more ↦ omega arith | inr most ↦ absurd (ne (omega arith)) ]))
      ])
]

-- a size that cuts a block of an object of n blocks in two is below its limit
cut_low : (i : Inode) (size n : ℕ) → size ≤ 512 * n → is_cut i size ≡ true → size / 512 < n
cut_low i size n le is =
    let deep = and_parts (ltb size i.size) (not (size % 512 == 0) && is_some (pointer_at i (size / 512))) is in
    let inner = and_parts (not (size % 512 == 0)) (is_some (pointer_at i (size / 512))) deep.1 in
    let rest : size % 512 ≡ 0 → ⊥ = eqb-false (size % 512) 0 (not-true (size % 512 == 0) inner.0) in
    elim (cases_lt (size / 512) n) [ inl low ↦ low | inr past ↦ absurd (rest (omega (arith, le, past))) ]

cut_tally : (i : Inode) (size n : ℕ) → size ≤ 512 * n → tally (is_cut_at i size) 0 n ≡ cut_count i size
cut_tally i size n le = elim (cases_Bool (is_cut i size)) [
  | inl is ↦
      let low : size / 512 < n = cut_low i size n le is in
      tally-same (is_cut_at i size) (within (size / 512) (size / 512 + 1)) 0 n (λ k from below. cut_here i size k is)
      ∙ tally-within (size / 512) (size / 512 + 1) 0 n
      ∙ (let one : min (size / 512 + 1) (0 + n) - max (size / 512) 0 ≡ 1 = omega (arith, low) in one)
      ∙ sym (cond-true (is_cut i size) 1 0 is)
  | inr whole ↦
      tally-none (is_cut_at i size) 0 n (λ k from below. and_left (is_cut i size) (k == size / 512) whole)
      ∙ sym (cond-false (is_cut i size) 1 0 whole)
]

past_and_cut : (i : Inode) (size : ℕ) → size ≤ OBJECT_BYTES → (f : ℕ → Bool) → ((k : ℕ) → bit (f k) ≡ bit (is_past i size k) + bit (is_cut_at i size k)) → tally f 0 OBJECT_BLOCKS ≡ past_count i size + cut_count i size
unfolding past_count
past_and_cut i size le f each =
    tally-sum (is_past i size) (is_cut_at i size) f 0 OBJECT_BLOCKS (λ k from below. each k)
    ∙ ap (λ cut. tally (is_past i size) 0 OBJECT_BLOCKS + cut) (cut_tally i size OBJECT_BLOCKS le)

pub past_uncut : (i : Inode) (size k : ℕ) → is_cut_at i size k ≡ true → size ≤ 512 * k → ⊥
past_uncut i size k is le =
    let parts = and_parts (is_cut i size) (k == size / 512) is in
    let index : k ≡ size / 512 = eqb-true k (size / 512) parts.1 in
    let deep = and_parts (ltb size i.size) (not (size % 512 == 0) && is_some (pointer_at i (size / 512))) parts.0 in
    let inner = and_parts (not (size % 512 == 0)) (is_some (pointer_at i (size / 512))) deep.1 in
    eqb-false (size % 512) 0 (not-true (size % 512 == 0) inner.0) (omega (arith, index, le))

hole_differs : (old new : Option Place) (b : Bool) → new ≡ None → b ≡ true → not (same_slot old new) ≡ (b && is_some old)
hole_differs None new b hole is = ap (λ (slot : Option Place). not (same_slot None slot)) hole ∙ sym (and_right b false refl)
hole_differs (Some p) new b hole is = ap (λ (slot : Option Place). not (same_slot (Some p) slot)) hole ∙ sym (and_from b true is refl)

-- which pointers a truncation replaces
cut_differs : OnePlace → (held : Place → Option Stored) (ahead : List Place) (moment size : ℕ) (i j : Inode) (k : ℕ) → Truncated ahead moment size i j → cut_count i size ≤ length ahead → Fresh held ahead (cut_count i size) → PointersLead held i
    → bit (differs i j k) ≡ bit (is_past i size k) + bit (is_cut_at i size k)
cut_differs one held ahead moment size i j k truncated room fresh leads = elim (cases_lt (512 * k) size) [
  | inl before ↦
      let not_past : leb size (512 * k) ≡ false = lt-leb size (512 * k) before in
      let zero_past : bit (is_past i size k) ≡ 0 = ap bit (and_left (leb size (512 * k)) (is_some (pointer_at i k)) not_past) in
      let pointer = truncated.pointers k ∙ cond-false (leb size (512 * k)) None (cond (is_cut_at i size k) (slice_get ahead 0) (pointer_at i k)) not_past in
      elim (cases_Bool (is_cut_at i size k)) [
        | inl is ↦
            let count : cut_count i size ≡ 1 = cond-true (is_cut i size) 1 0 (and_parts (is_cut i size) (k == size / 512) is).0 in
            let place = taken_place held ahead (cut_count i size) 0 (omega (arith, count)) room fresh in
            let new : pointer_at j k ≡ Some place.0 = pointer ∙ cond-true (is_cut_at i size k) (slice_get ahead 0) (pointer_at i k) is ∙ place.1 in
            let other : bit (differs i j k) ≡ 1 = ap bit (fresh_differs one held i j k place.0 new place.2 leads) in
            let cut : bit (is_cut_at i size k) ≡ 1 = ap bit is in
            omega (arith, zero_past, other, cut)
        | inr whole ↦
            let same : bit (differs i j k) ≡ 0 = ap bit (not_differs i j k (pointer ∙ cond-false (is_cut_at i size k) (slice_get ahead 0) (pointer_at i k) whole)) in
            let uncut : bit (is_cut_at i size k) ≡ 0 = ap bit whole in
            omega (arith, zero_past, same, uncut)
      ]
  | inr past ↦
      let is : leb size (512 * k) ≡ true = le-leb size (512 * k) past in
      let hole : pointer_at j k ≡ None = truncated.pointers k ∙ cond-true (leb size (512 * k)) None (cond (is_cut_at i size k) (slice_get ahead 0) (pointer_at i k)) is in
      let not_cut : is_cut_at i size k ≡ false = elim (cases_Bool (is_cut_at i size k)) [
        | inl cut ↦ absurd (past_uncut i size k cut past)
        | inr whole ↦ whole
      ] in
      let uncut : bit (is_cut_at i size k) ≡ 0 = ap bit not_cut in
      let counted : bit (differs i j k) ≡ bit (is_past i size k) = ap bit (hole_differs (pointer_at i k) (pointer_at j k) (leb size (512 * k)) hole is) in
      omega (arith, uncut, counted)
]

-- a truncation replaces the pointers past the size, and that of the block that it cuts
pub truncated_moves : OnePlace → (held : Place → Option Stored) (ahead : List Place) (moment size : ℕ) (i j : Inode) → size ≤ OBJECT_BYTES → Truncated ahead moment size i j → cut_count i size ≤ length ahead → Fresh held ahead (cut_count i size) → PointersLead held i
    → length (triples_between i j) ≡ past_count i size + cut_count i size
truncated_moves one held ahead moment size i j le truncated room fresh leads =
    between_count i j ∙ past_and_cut i size le (differs i j) (λ k. cut_differs one held ahead moment size i j k truncated room fresh leads)

either_bit : (f g : Bool) → (f ≡ true → g ≡ false) → bit (g || f) ≡ bit g + bit f
either_bit true true h = absurd (false≢true (sym (h refl)))
either_bit true false h = refl
either_bit false true h = refl
either_bit false false h = refl

equal_most : (a b most : ℕ) → a ≡ b → a ≤ most → b ≤ most
equal_most a b most e le = omega (arith, e, le)

pub moved_most : (i : Inode) (size : ℕ) → size ≤ OBJECT_BYTES → past_count i size + cut_count i size ≤ OBJECT_BLOCKS
moved_most i size le =
    let f : ℕ → Bool = λ k. is_past i size k || is_cut_at i size k in
    equal_most (tally f 0 OBJECT_BLOCKS) (past_count i size + cut_count i size) OBJECT_BLOCKS (past_and_cut i size le f (λ k. either_bit (is_cut_at i size k) (is_past i size k) (cut_before i size k))) (tally_most f OBJECT_BLOCKS)

-- a write within an object touches at most all its blocks
pub touched_most : (offset len : ℕ) → offset + len ≤ OBJECT_BYTES → touched_count offset len ≤ OBJECT_BLOCKS
touched_most offset len le = elim (cases_lt 0 len) [
  | inl some ↦ let count = touched_some offset len some in omega (arith, count, some, le)
  | inr none ↦ let count = touched_none offset len (omega arith) in omega (arith, count)
]
