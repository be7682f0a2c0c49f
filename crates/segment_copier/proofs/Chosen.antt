-- Which frame goes first, and which object leaves it.
use Rattle.std.proofs.Common.{◌≡◌, inl, inr, ℕ, suc, ◌+◌, ◌<◌, ◌≤◌, Bool, true, false, List, [], ◌∷◌, length, filter, if◌then◌else◌, Option, Some, None, refl, sym, ap, subst, ◌∙◌, arith}
use Rattle.std.specs.Prelude.{IfSome, IfNone, nat_eq, nat_lt, nat_le, not}
use Rattle.std.specs.List.{Contains}
use Rattle.std.proofs.lemmas.Bool.{cases_Bool, cases_eq, cases_lt, ne_eqb, ltb-true, ltb-false, leb-true, leb-false}
use Rattle.s4_types.specs.Pointer.{Place}
use Rattle.segment_word.specs.Frames.{Phase, Sealed, is_sealed}
use Rattle.segment_word.specs.Layout.{frame_at}
use Rattle.segment_table.specs.Table.{Table, held_at, is_of}
use Rattle.segment_table.specs.Room.{whole_of, pointers_in}
use Rattle.segment_table.specs.Laws.{IsListed, ListsAllHeld, WhatIsListedIsHeld}
use Rattle.segment_table.proofs.Emptying.{sealed_is}
use Rattle.segment_copier.specs.declared.choices.Survey.{Survey}
use Rattle.segment_copier.specs.Choosing.{held_count, IsSparse, GoesBefore, HoldsIn, IsLowestObject}
use Rattle.segment_copier.specs.private.Surveying.{block_at, IsLowestIn, GoesFirst, IsBestBelow}

-- ---- sealed frames

phase_sealed : (p : Phase) → p ≡ Sealed → is_sealed p ≡ true
phase_sealed p e = ap is_sealed e

-- a list that has something isn't empty
some_there : (places : List Place) (p : Place) → Contains places p → places ≡ [] → ⊥
some_there [] p (k, h, e) none = absurd (omega arith)
some_there (q ∷ places) p has none = absurd (cc)

-- where a frame is sealed, its least object holds a block there
lowest_holds : (t : Table) (f o : ℕ) → ListsAllHeld t → IsLowestIn t f o → is_sealed (frame_at t.seat.frames f).phase ≡ true → HoldsIn t f o
lowest_holds t f o lists lowest sealed =
    let p : Place = block_at t f lowest.tells.block in
    some_there (pointers_in t o f) p (lists o p sealed lowest.tells.holds)

-- whether a frame is sealed, by what is listed of its least object
pub sealed_by : (t : Table) (f o : ℕ) (places : List Place) (none : Bool) → ListsAllHeld t → IsLowestIn t f o → places ≡ pointers_in t o f → none ≡ nat_eq (length places) 0 → not none ≡ is_sealed (frame_at t.seat.frames f).phase
sealed_by t f o places none lists lowest is none_is = elim (cases_Bool (is_sealed (frame_at t.seat.frames f).phase)) [
  | inl sealed ↦ (let some : places ≡ [] → ⊥ = (λ e. lowest_holds t f o lists lowest sealed (sym is ∙ e)) in ap not (none_is ∙ is_some places some) ∙ sym sealed)
  | inr other ↦ (let listed : pointers_in t o f ≡ [] = ap (λ (b : Bool). if b then filter (λ p. is_of o (held_at t p)) (whole_of t f) else []) other in
      ap not (none_is ∙ ap (λ (l : List Place). nat_eq (length l) 0) (is ∙ listed)) ∙ sym other)
] where
  is_some : (l : List Place) → (l ≡ [] → ⊥) → nat_eq (length l) 0 ≡ false
  is_some [] some = absurd (some refl)
  is_some (p ∷ l) some = ne_eqb (suc (length l)) 0 (λ e. omega (arith, e))

-- the least object of a sealed frame is the least that holds a block there
pub lowest_object : (law : WhatIsListedIsHeld) (t : Table) (f o : ℕ) → ListsAllHeld t → IsLowestIn t f o → (frame_at t.seat.frames f).phase ≡ Sealed → IsLowestObject t f o
lowest_object law t f o lists lowest sealed = record {
  holds = lowest_holds t f o lists lowest (phase_sealed (frame_at t.seat.frames f).phase sealed);
  lowest = λ q some. least q (pointers_in t q f) refl some;
} where
  same_place : (p : Place) (q : ℕ) → IsListed t q f p → is_of q (held_at t (block_at t f p.block)) ≡ true
  same_place p q listed = subst (λ (x : Place). is_of q (held_at t x) ≡ true)
      (ap (λ (n : ℕ). record { frame = n; block = p.block; generation = p.generation }) listed.frame ∙ ap (λ (n : ℕ). record { frame = f; block = p.block; generation = n }) listed.generation) listed.held

  least : (q : ℕ) (places : List Place) → places ≡ pointers_in t q f → (places ≡ [] → ⊥) → o ≤ q
  least q [] is some = absurd (some refl)
  least q (p ∷ places) is some =
      let listed : IsListed t q f p = law t q f p (subst (λ (l : List Place). Contains l p) is (0, omega arith, refl)) in
      lowest.tells.lowest p.block q listed.payload.0 listed.payload.1 (same_place p q listed)

-- ---- the first frame

-- a frame that no move can be made out of changes nothing
pub best_without : (t : Table) (f : ℕ) (best : Option Survey) → IsBestBelow t f best → (IsSparse t f → ⊥) → IsBestBelow t (f + 1) best
best_without t f None before none = λ g low sparse. elim (cases_eq g f) [
  | inl same ↦ none (subst (IsSparse t) same sparse)
  | inr other ↦ before g (omega (arith, low, other)) sparse
]
best_without t f (Some b) before none = record {
  lowest = before.lowest;
  count = before.count;
  sparse = before.sparse;
  below = (let low : b.frame < f = before.below in omega (arith, low));
  first = λ g low sparse. elim (cases_eq g f) [
    | inl same ↦ absurd (none (subst (IsSparse t) same sparse))
    | inr other ↦ before.first g (omega (arith, low, other)) sparse
  ];
}

-- so does one of which this many blocks are held that it doesn't come before the best
pub best_stays : (t : Table) (f n : ℕ) (best : Option Survey) → IsBestBelow t f best → n ≡ held_count t f
    → IfNone best (false ≡ nat_le n 7) → IfSome best (λ b. false ≡ nat_lt n b.count) → IsBestBelow t (f + 1) best
best_stays t f n None before its first fewer = best_without t f None before
    (λ sparse. let few : held_count t f ≤ 7 = sparse.few in absurd (omega (arith, few, its, leb-false n 7 (sym first))))
best_stays t f n (Some b) before its first fewer =
    let low : b.frame < f = before.below in
    let more : b.count ≤ n = ltb-false n b.count (sym fewer) in
    let mine : b.count ≡ held_count t b.frame = before.count in
    record {
      lowest = before.lowest;
      count = before.count;
      sparse = before.sparse;
      below = omega (arith, low);
      first = λ g lower sparse. elim (cases_eq g f) [
        | inl same ↦ subst (GoesBefore t b.frame) (sym same) (elim (cases_lt b.count n) [
          | inl less ↦ inl (omega (arith, less, mine, its))
          | inr other ↦ inr (omega (arith, other, more, mine, its), omega (arith, low))
        ])
        | inr other ↦ before.first g (omega (arith, lower, other)) sparse
      ];
    }

-- one that comes before the best goes first
pub best_goes : (t : Table) (f n o : ℕ) (best : Option Survey) → IsBestBelow t f best → IsLowestIn t f o → is_sealed (frame_at t.seat.frames f).phase ≡ true → n ≡ held_count t f → (n ≡ 0 → ⊥)
    → IfNone best (true ≡ nat_le n 7) → IfSome best (λ b. true ≡ nat_lt n b.count) → GoesFirst t (f + 1) (record { frame = f; count = n; lowest = o })
best_goes t f n o best before lowest sealed its some first fewer = record {
  lowest = lowest;
  count = its;
  sparse = record {
    sealed = sealed_is (frame_at t.seat.frames f).phase sealed;
    life = lowest.life;
    some = omega (arith, its, some);
    few = omega (arith, its, at_most best before first fewer);
  };
  below = omega arith;
  first = λ g low other. elim (cases_eq g f) [
    | inl same ↦ inr (ap (held_count t) (sym same), omega (arith, same))
    | inr not_it ↦ inl (goes best before fewer g (omega (arith, low, not_it)) other)
  ];
} where
  at_most : (b : Option Survey) → IsBestBelow t f b → IfNone b (true ≡ nat_le n 7) → IfSome b (λ b. true ≡ nat_lt n b.count) → n ≤ 7
  at_most None known one two = leb-true n 7 (sym one)
  at_most (Some b) known one two =
      let most : held_count t b.frame ≤ 7 = known.sparse.few in
      omega (arith, most, known.count, ltb-true n b.count (sym two))

  least : (b : Survey) (g : ℕ) → b.count ≡ held_count t b.frame → GoesBefore t b.frame g → n < b.count → held_count t f < held_count t g
  least b g mine (inl less) lower = omega (arith, less, mine, its, lower)
  least b g mine (inr same) lower = (let equal : held_count t b.frame ≡ held_count t g = same.0 in omega (arith, equal, mine, its, lower))

  goes : (b : Option Survey) → IsBestBelow t f b → IfSome b (λ b. true ≡ nat_lt n b.count) → (g : ℕ) → g < f → IsSparse t g → held_count t f < held_count t g
  goes None known two g low other = absurd (known g low other)
  goes (Some b) known two g low other = least b g known.count (known.first g low other) (ltb-true n b.count (sym two))
