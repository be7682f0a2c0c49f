-- The pointers that differ, one index after the other.
use Rattle.std.proofs.Common.{◌≡◌, ℕ, zero, suc, ◌+◌, ◌-◌, ◌<◌, ◌≤◌, ◌==◌, true, false, ltb, cond, inl, inr, ◌⊎◌, List, [], ◌∷◌, ◌++◌, length, map, take, drop, Option, refl, sym, ap, subst, ◌∙◌, arith}
use Rattle.std.specs.Prelude.{not}
use Rattle.std.specs.List.{filter, range_with_len}
use Rattle.std.proofs.lemmas.Bool.{cases_Bool, cases_eq, cases_lt, and_from, lt-ltb, eqb-true, eq-eqb, ne_eqb, not_from_true, not_from_false, cond_both}
use Rattle.s4_types.specs.Pointer.{Place}
use Rattle.s4_types.specs.declared.limits.TheConstants.{OBJECT_BLOCKS}
use Rattle.codec.specs.declared.inodes.Inode.{Inode}
use Rattle.codec.specs.declared.entries.Triple.{Triple}
use Rattle.codec.specs.Checkpoint.{pointer_at}
use Rattle.codec.specs.Entry.{same_slot, ascend_from}
use Rattle.undo_redo.specs.Linked.{pointer_after, pointer_before}
use Rattle.undo_redo.specs.Between.{triple_between, tells_apart, triples_below, triples_between, AreOf}
use Rattle.undo_redo.specs.private.Further.{AreSameFrom, triples_from}
use Rattle.undo_redo.proofs.Pointers.{Leaves}
use Rattle.undo_redo.proofs.Indices.{ascends, ascend_none, ascend_made, ascend_weaker, ascend_reaches}
use Rattle.undo_redo.proofs.Slots.{same_slot_same, one_slot}

-- the pointers that differ from an index on, among this many
abbrev pub stretch : Inode → Inode → ℕ → ℕ → List Triple
stretch i j a n = filter tells_apart (map (triple_between i j) (range_with_len a n))

stretch_tests : (i j : Inode) (a n : ℕ) → (P : List Triple → Type 0) → (tells_apart (triple_between i j a) ≡ true → P (triple_between i j a ∷ stretch i j (a + 1) n)) → (tells_apart (triple_between i j a) ≡ false → P (stretch i j (a + 1) n)) → P (stretch i j a (suc n))
stretch_tests i j a n P h k = cond_both (tells_apart (triple_between i j a)) (triple_between i j a ∷ stretch i j (a + 1) n) (stretch i j (a + 1) n) P h k

stretch_more : (i j : Inode) (a n : ℕ) → stretch i j a (suc n) ≡ cond (tells_apart (triple_between i j a)) (triple_between i j a ∷ []) [] ++ stretch i j (a + 1) n
stretch_more i j a n =
    let here : Triple = triple_between i j a in
    let behind : List Triple = stretch i j (a + 1) n in
    stretch_tests i j a n (λ (triples : List Triple). triples ≡ cond (tells_apart here) (here ∷ []) [] ++ behind)
    (λ is. sym (ap (λ b. cond b (here ∷ []) [] ++ behind) is))
    (λ no_triple. sym (ap (λ b. cond b (here ∷ []) [] ++ behind) no_triple))

-- ---- from an index on

pub from_all : (i j : Inode) → triples_from 0 i j ≡ triples_between i j
unfolding triples_from triples_between triples_below
from_all i j = refl

pub from_more : (i j : Inode) (n : ℕ) → n < OBJECT_BLOCKS → triples_from n i j ≡ cond (tells_apart (triple_between i j n)) (triple_between i j n ∷ []) [] ++ triples_from (n + 1) i j
unfolding triples_from
from_more i j n lt =
    let one : OBJECT_BLOCKS - n ≡ suc (OBJECT_BLOCKS - (n + 1)) = omega (arith, lt) in
    ap (λ (k : ℕ). stretch i j n k) one ∙ stretch_more i j n (OBJECT_BLOCKS - (n + 1))

-- ---- in order

stretch_ascends : (i j : Inode) (a n : ℕ) → a + n ≤ OBJECT_BLOCKS → ascend_from a (stretch i j a n) ≡ true
stretch_ascends i j a zero le = ascend_none a
stretch_ascends i j a (suc n) le =
    let behind : ascend_from (a + 1) (stretch i j (a + 1) n) ≡ true = stretch_ascends i j (a + 1) n (omega arith) in
    stretch_tests i j a n (λ triples. ascend_from a triples ≡ true)
    (λ is. ascend_made a (triple_between i j a) (stretch i j (a + 1) n) (omega arith) (and_from (ltb a OBJECT_BLOCKS) (tells_apart (triple_between i j a)) (lt-ltb a OBJECT_BLOCKS (omega arith)) is) behind)
    (λ no_triple. ascend_weaker a (a + 1) (stretch i j (a + 1) n) (omega arith) behind)

stretch_of : (i j : Inode) (a n : ℕ) → AreOf i j (stretch i j a n)
stretch_of i j a zero = tt
stretch_of i j a (suc n) = stretch_tests i j a n (AreOf i j) (λ is. (refl, stretch_of i j (a + 1) n)) (λ no_triple. stretch_of i j (a + 1) n)

pub of_take : (i j : Inode) (n : ℕ) (triples : List Triple) → AreOf i j triples → AreOf i j (take n triples)
of_take i j zero triples h = tt
of_take i j (suc n) [] h = tt
of_take i j (suc n) (t ∷ triples) h = (h.0, of_take i j n triples h.1)

pub of_drop : (i j : Inode) (n : ℕ) (triples : List Triple) → AreOf i j triples → AreOf i j (drop n triples)
of_drop i j zero triples h = h
of_drop i j (suc n) [] h = h
of_drop i j (suc n) (t ∷ triples) h = of_drop i j n triples h.1

own_after : (i j : Inode) (t : Triple) (n : ℕ) → t ≡ triple_between i j t.index → cond (t.index == n) t.after (pointer_at j n) ≡ pointer_at j n
own_after i j t n is = cond_both (t.index == n) t.after (pointer_at j n) (λ (p : Option Place). p ≡ pointer_at j n) (λ here. ap (λ (u : Triple). u.after) is ∙ ap (pointer_at j) (eqb-true t.index n here)) (λ other. refl)

own_before : (i j : Inode) (t : Triple) (n : ℕ) → t ≡ triple_between i j t.index → cond (t.index == n) t.before (pointer_at i n) ≡ pointer_at i n
own_before i j t n is = cond_both (t.index == n) t.before (pointer_at i n) (λ (p : Option Place). p ≡ pointer_at i n) (λ here. ap (λ (u : Triple). u.before) is ∙ ap (pointer_at i) (eqb-true t.index n here)) (λ other. refl)

pub after_own : (i j : Inode) (triples : List Triple) (n : ℕ) → AreOf i j triples → pointer_after triples n (pointer_at j n) ≡ pointer_at j n
after_own i j [] n h = refl
after_own i j (t ∷ triples) n h = ap (pointer_after triples n) (own_after i j t n h.0) ∙ after_own i j triples n h.1

pub before_own : (i j : Inode) (triples : List Triple) (n : ℕ) → AreOf i j triples → pointer_before triples n (pointer_at i n) ≡ pointer_at i n
before_own i j [] n h = refl
before_own i j (t ∷ triples) n h = ap (pointer_before triples n) (own_before i j t n h.0) ∙ before_own i j triples n h.1

-- a pointer that differs is told
stretch_tells : (i j : Inode) (a m n : ℕ) → a ≤ n → n < a + m → same_slot (pointer_at i n) (pointer_at j n) ≡ false → (p : Option Place) → pointer_after (stretch i j a m) n p ≡ pointer_at j n
stretch_tells i j a zero n le lt differ p = absurd (omega arith)
stretch_tells i j a (suc m) n le lt differ p = elim (cases_eq a n) [
  | inl e ↦ (let told : tells_apart (triple_between i j a) ≡ true = ap (λ k. not (same_slot (pointer_at i k) (pointer_at j k))) e ∙ not_from_false (same_slot (pointer_at i n) (pointer_at j n)) differ in
      let whole : pointer_after (stretch i j a (suc m)) n p ≡ pointer_after (stretch i j (a + 1) m) n (cond (a == n) (pointer_at j a) p) = ap (λ b. pointer_after (cond b (triple_between i j a ∷ stretch i j (a + 1) m) (stretch i j (a + 1) m)) n p) told in
      let here : cond (a == n) (pointer_at j a) p ≡ pointer_at j n = ap (λ b. cond b (pointer_at j a) p) (eq-eqb a n e) ∙ ap (pointer_at j) e in
      whole ∙ ap (pointer_after (stretch i j (a + 1) m) n) here ∙ after_own i j (stretch i j (a + 1) m) n (stretch_of i j (a + 1) m))
  | inr ne ↦ (let ahead : a + 1 ≤ n = elim (cases_lt a n) [ inl less ↦ omega arith | inr most ↦ absurd (ne (omega arith)) ] in
      let behind : (q : Option Place) → pointer_after (stretch i j (a + 1) m) n q ≡ pointer_at j n = λ q. stretch_tells i j (a + 1) m n ahead (omega arith) differ q in
      stretch_tests i j a m (λ triples. pointer_after triples n p ≡ pointer_at j n) (λ is. behind (cond (a == n) (pointer_at j a) p)) (λ no_triple. behind p))
]

-- equal pointers aren't told
not_apart : (i j : Inode) (n : ℕ) → pointer_at i n ≡ pointer_at j n → tells_apart (triple_between i j n) ≡ false
not_apart i j n same = not_from_true (same_slot (pointer_at i n) (pointer_at j n)) (same_slot_same (pointer_at i n) (pointer_at j n) same)

stretch_none : (i j : Inode) (a n : ℕ) → ((k : ℕ) → a ≤ k → k < a + n → pointer_at i k ≡ pointer_at j k) → stretch i j a n ≡ []
stretch_none i j a zero same = refl
stretch_none i j a (suc n) same =
    ap (λ b. cond b (triple_between i j a ∷ stretch i j (a + 1) n) (stretch i j (a + 1) n)) (not_apart i j a (same a (omega arith) (omega arith)))
    ∙ stretch_none i j (a + 1) n (λ k le lt. same k (omega arith) (omega arith))

-- where none differs from an index on, none is left there, nor later
pub from_none : (i j : Inode) (end n : ℕ) → AreSameFrom end i j → end ≤ n → triples_from n i j ≡ []
unfolding triples_from
from_none i j end n same le = stretch_none i j n (OBJECT_BLOCKS - n) (λ k above lt. same k (omega arith) (omega arith))

-- where none differs below an index, those that differ begin there
pub from_first : (i j : Inode) (n : ℕ) → n ≤ OBJECT_BLOCKS → ((k : ℕ) → k < n → pointer_at i k ≡ pointer_at j k) → triples_from n i j ≡ triples_from 0 i j
from_first i j zero le same = refl
from_first i j (suc n) le same =
    let here : triples_from n i j ≡ triples_from (n + 1) i j =
    from_more i j n (omega arith) ∙ ap (λ b. cond b (triple_between i j n ∷ []) [] ++ triples_from (n + 1) i j) (not_apart i j n (same n (omega arith))) in
    let one : n + 1 ≡ suc n = omega arith in
    subst (λ (k : ℕ). triples_from k i j ≡ triples_from 0 i j) one (sym here ∙ from_first i j n (omega arith) (λ k lt. same k (omega arith)))

-- at each index the two pairs of inodes agree, or neither pair differs there
abbrev pub AgreeAt : Inode → Inode → Inode → Inode → ℕ → Type 0
AgreeAt i j k l n = (triple_between i j n ≡ triple_between k l n) ⊎ ((pointer_at i n ≡ pointer_at j n) × (pointer_at k n ≡ pointer_at l n))

stretch_agrees : (i j k l : Inode) (a n : ℕ) → ((b : ℕ) → a ≤ b → b < a + n → AgreeAt i j k l b) → stretch i j a n ≡ stretch k l a n
stretch_agrees i j k l a zero h = refl
stretch_agrees i j k l a (suc n) h =
    let behind : stretch i j (a + 1) n ≡ stretch k l (a + 1) n = stretch_agrees i j k l (a + 1) n (λ b le lt. h b (omega arith) (omega arith)) in
    elim (h a (omega arith) (omega arith)) [
      | inl same ↦ ap (λ (t : Triple). cond (tells_apart t) (t ∷ stretch i j (a + 1) n) (stretch i j (a + 1) n)) same ∙ ap (λ (ts : List Triple). cond (tells_apart (triple_between k l a)) (triple_between k l a ∷ ts) ts) behind
      | inr both ↦ (let first : tells_apart (triple_between i j a) ≡ false = not_from_true (same_slot (pointer_at i a) (pointer_at j a)) (same_slot_same (pointer_at i a) (pointer_at j a) both.0) in
          let second : tells_apart (triple_between k l a) ≡ false = not_from_true (same_slot (pointer_at k a) (pointer_at l a)) (same_slot_same (pointer_at k a) (pointer_at l a) both.1) in
          ap (λ b. cond b (triple_between i j a ∷ stretch i j (a + 1) n) (stretch i j (a + 1) n)) first ∙ behind ∙ sym (ap (λ b. cond b (triple_between k l a ∷ stretch k l (a + 1) n) (stretch k l (a + 1) n)) second))
    ]

-- ---- all of them

pub between_ascends : (i j : Inode) → ascend_from 0 (triples_between i j) ≡ true
unfolding triples_between triples_below
between_ascends i j = stretch_ascends i j 0 OBJECT_BLOCKS (omega arith)

pub between_of : (i j : Inode) → AreOf i j (triples_between i j)
unfolding triples_between triples_below
between_of i j = stretch_of i j 0 OBJECT_BLOCKS

between_tells : (i j : Inode) (n : ℕ) → n < OBJECT_BLOCKS → same_slot (pointer_at i n) (pointer_at j n) ≡ false → (p : Option Place) → pointer_after (triples_between i j) n p ≡ pointer_at j n
unfolding triples_between triples_below
between_tells i j n lt differ p = stretch_tells i j 0 OBJECT_BLOCKS n (omega arith) (omega arith) differ p

-- redone, they make of each pointer of the first inode that of the second
pub between_reaches : (i j : Inode) (n : ℕ) → n < OBJECT_BLOCKS → pointer_after (triples_between i j) n (pointer_at i n) ≡ pointer_at j n
between_reaches i j n lt = elim (cases_Bool (same_slot (pointer_at i n) (pointer_at j n))) [
  | inl same ↦ ap (pointer_after (triples_between i j) n) (one_slot (pointer_at i n) (pointer_at j n) same) ∙ after_own i j (triples_between i j) n (between_of i j)
  | inr differ ↦ between_tells i j n lt differ (pointer_at i n)
]

pub between_none : (i j : Inode) → ((k : ℕ) → pointer_at i k ≡ pointer_at j k) → triples_between i j ≡ []
unfolding triples_between triples_below
between_none i j same = stretch_none i j 0 OBJECT_BLOCKS (λ k le lt. same k)

pub none_between : (i j : Inode) (n : ℕ) → triples_between i j ≡ [] → n < OBJECT_BLOCKS → pointer_at i n ≡ pointer_at j n
none_between i j n none lt = subst (λ (triples : List Triple). pointer_after triples n (pointer_at i n) ≡ pointer_at j n) none (between_reaches i j n lt)

pub between_agrees : (i j k l : Inode) → ((n : ℕ) → n < OBJECT_BLOCKS → AgreeAt i j k l n) → triples_between i j ≡ triples_between k l
unfolding triples_between triples_below
between_agrees i j k l h = stretch_agrees i j k l 0 OBJECT_BLOCKS (λ b le lt. h b (omega arith))

stretch_length : (i j : Inode) (a n : ℕ) → length (stretch i j a n) ≤ n
stretch_length i j a zero = omega arith
stretch_length i j a (suc n) =
    let behind : length (stretch i j (a + 1) n) ≤ n = stretch_length i j (a + 1) n in
    stretch_tests i j a n (λ (triples : List Triple). length triples ≤ suc n) (λ is. omega arith) (λ no_triple. omega arith)

pub between_length : (i j : Inode) → length (triples_between i j) ≤ OBJECT_BLOCKS
unfolding triples_between triples_below
between_length i j = stretch_length i j 0 OBJECT_BLOCKS

-- ---- what ascending triples leave alone

leaves_below : (low n : ℕ) (triples : List Triple) → ascend_from low triples ≡ true → n < low → Leaves (pointer_after triples n) (pointer_before triples n)
leaves_below low n [] h lt = record { forth_same = λ p. refl; back_same = λ p. refl }
leaves_below low n (t ∷ triples) h lt =
    let a = ascends low t triples h in
    let up : low ≤ t.index = a.least in
    let other : (t.index == n) ≡ false = ne_eqb t.index n (λ (e : t.index ≡ n). omega arith) in
    let behind = leaves_below (t.index + 1) n triples a.others (omega arith) in
    record {
      forth_same = λ p. ap (λ b. pointer_after triples n (cond b t.after p)) other ∙ behind.forth_same p;
      back_same = λ p. ap (λ b. pointer_before triples n (cond b t.before p)) other ∙ behind.back_same p;
    }

leaves_above : (low n : ℕ) (front : List Triple) (u : Triple) (back : List Triple) → ascend_from low (front ++ u ∷ back) ≡ true → u.index ≤ n → Leaves (pointer_after front n) (pointer_before front n)
leaves_above low n [] u back h le = record { forth_same = λ p. refl; back_same = λ p. refl }
leaves_above low n (t ∷ front) u back h le =
    let a = ascends low t (front ++ u ∷ back) h in
    let more : t.index + 1 ≤ u.index = (ascend_reaches (t.index + 1) front u back a.others).0 in
    let other : (t.index == n) ≡ false = ne_eqb t.index n (λ (e : t.index ≡ n). omega arith) in
    let behind = leaves_above (t.index + 1) n front u back a.others le in
    record {
      forth_same = λ p. ap (λ b. pointer_after front n (cond b t.after p)) other ∙ behind.forth_same p;
      back_same = λ p. ap (λ b. pointer_before front n (cond b t.before p)) other ∙ behind.back_same p;
    }

-- where front triples were redone, the earlier pointers of those after them still stand
pub still_before : (i j : Inode) (low n : ℕ) (front back : List Triple) → ascend_from low (front ++ back) ≡ true → AreOf i j back → pointer_after front n (pointer_at i n) ≡ pointer_before back n (pointer_after front n (pointer_at i n))
still_before i j low n front [] h are = refl
still_before i j low n front (u ∷ back) h are = elim (cases_lt n u.index) [
  | inl below ↦ sym ((leaves_below u.index n (u ∷ back) (ascend_reaches low front u back h).1 below).back_same (pointer_after front n (pointer_at i n)))
  | inr from ↦ (let left : pointer_after front n (pointer_at i n) ≡ pointer_at i n = (leaves_above low n front u back h from).forth_same (pointer_at i n) in
      left ∙ sym (before_own i j (u ∷ back) n are) ∙ ap (pointer_before (u ∷ back) n) (sym left))
]
