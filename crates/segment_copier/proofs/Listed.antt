-- What is held of an object in a sealed frame, and which of it is data.
use Rattle.std.proofs.Common.{◌≡◌, inl, inr, ℕ, zero, suc, ◌<◌, ◌≤◌, Bool, true, cond, if◌then◌else◌, List, [], ◌∷◌, length, get_or, sym, ap, subst, ◌∙◌, filter, Some, arith}
use Rattle.std.specs.Prelude.{slice_get}
use Rattle.std.specs.List.{AllByRecursion, Contains}
use Rattle.std.proofs.lemmas.Bool.{cases_Bool}
use Rattle.std.proofs.lemmas.List.Elements.{recursion_from_All, All-from_recursion, All-get_or, Contains-get_or}
use Rattle.s4_types.specs.Pointer.{Place}
use Rattle.lemmas.proofs.Contains.{contains_later}
use Rattle.segment_word.specs.Frames.{is_sealed}
use Rattle.segment_word.specs.Layout.{frame_at}
use Rattle.segment_word.specs.Handles.{pin_of}
use Rattle.segment_table.specs.Table.{Table, held_at, is_of}
use Rattle.segment_table.specs.Room.{whole_of, pointers_in}
use Rattle.segment_table.specs.Laws.{IsListed, WhatIsListedIsHeld}
use Rattle.segment_copier.specs.Moves.{is_data, data_in, IsPlaceIn}

-- ---- lists

first_or_later : {X : Type 0} (test : X → Bool) (x y : X) (ys : List X) → test y ≡ true → Contains (y ∷ filter test ys) x
    → (Contains (filter test ys) x → Contains ys x × (test x ≡ true)) → Contains (y ∷ ys) x × (test x ≡ true)
first_or_later test x y ys here (zero, h, e) rest = ((0, omega arith, e), ap test (sym e) ∙ here)
first_or_later test x y ys here (suc k, h, e) rest =
    let found = rest (k, omega arith, e) in
    (contains_later y ys x found.0, found.1)

pub passed : {X : Type 0} (test : X → Bool) (x : X) (xs : List X) → Contains (filter test xs) x → Contains xs x × (test x ≡ true)
passed test x [] has = absurd (let h : has.0 < 0 = has.1 in omega arith)
passed {X} test x (y ∷ ys) has = elim (cases_Bool (test y)) [
  | inl here ↦ (let at : Contains (y ∷ filter test ys) x = subst (λ (b : Bool). Contains (cond b (y ∷ filter test ys) (filter test ys)) x) here has in
      first_or_later test x y ys here at (λ later. passed test x ys later))
  | inr other ↦ (let at : Contains (filter test ys) x = subst (λ (b : Bool). Contains (cond b (y ∷ filter test ys) (filter test ys)) x) other has in
      let rest = passed test x ys at in
      (contains_later y ys x rest.0, rest.1))
]

pub all_of : {X : Type 0} (P : X → Type 0) (xs : List X) → ((x : X) → Contains xs x → P x) → AllByRecursion P xs
all_of P xs each = recursion_from_All P xs (λ k d h. each (get_or xs k d) (Contains-get_or xs k d h))

-- what holds of each holds of the one of an index
pub one_at : {X : Type 0} (P : X → Type 0) (xs : List X) (i : ℕ) (x : X) → AllByRecursion P xs → i < length xs → x ≡ get_or xs i x → P x
one_at P xs i x all below at = subst P (sym at) (All-get_or P xs i x below (All-from_recursion P xs all))

-- ---- blocks

-- where something is listed as held in a frame, the frame is sealed
pub some_sealed : (t : Table) (o f : ℕ) → (pointers_in t o f ≡ [] → ⊥) → is_sealed (frame_at t.seat.frames f).phase ≡ true
some_sealed t o f some = elim (cases_Bool (is_sealed (frame_at t.seat.frames f).phase)) [
  | inl sealed ↦ sealed
  | inr other ↦ absurd (some (ap (λ (b : Bool). if b then filter (λ p. is_of o (held_at t p)) (whole_of t f) else []) other))
]

-- data blocks are listed, and are data
pub data_listed : (law : WhatIsListedIsHeld) (t : Table) (o f : ℕ) (p : Place) → Contains (data_in t o f) p → IsListed t o f p × (is_data (held_at t p) ≡ true)
data_listed law t o f p has =
    let both = passed (λ q. is_data (held_at t q)) p (pointers_in t o f) has in
    (law t o f p both.0, both.1)

-- each of them is in the frame, as it can be pinned
pub data_inside : (law : WhatIsListedIsHeld) (t : Table) (o f : ℕ) → AllByRecursion (IsPlaceIn (pin_of t.seat.frames f)) (data_in t o f)
data_inside law t o f = all_of (IsPlaceIn (pin_of t.seat.frames f)) (data_in t o f)
    (λ p has. (let listed = (data_listed law t o f p has).0 in
    let most : p.block ≤ 15 = listed.payload.1 in
    (listed.frame, (listed.generation, omega arith))))

has_first : (places : List Place) (p : Place) → Some p ≡ slice_get places 0 → Contains places p
has_first [] p e = absurd (cc)
has_first (q ∷ places) p e = (0, omega arith, (cc))

-- the first of those that are listed is listed
pub first_listed : (law : WhatIsListedIsHeld) (t : Table) (o f : ℕ) (places : List Place) (p : Place) → places ≡ pointers_in t o f → Some p ≡ slice_get places 0 → IsListed t o f p
first_listed law t o f places p is first = law t o f p (subst (λ (l : List Place). Contains l p) is (has_first places p first))
