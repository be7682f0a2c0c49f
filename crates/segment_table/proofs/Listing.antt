-- What is listed as held in a frame is just what is held there, and no place ahead lies in a sealed frame.
use Rattle.std.proofs.Common.{◌≡◌, inl, inr, ℕ, zero, suc, ◌+◌, ◌<◌, ◌≤◌, Bool, true, false, cond, if◌then◌else◌, List, [], ◌∷◌, length, refl, sym, subst, filter, Option, Some, None, arith}
use Rattle.std.specs.Prelude.{IsSome, nat_lt, ◌^◌, ◌-◌}
use Rattle.std.specs.List.{AllByRecursion, Contains, flat_map}
use Rattle.std.proofs.lemmas.Bool.{cases_Bool, cases_lt, and_parts}
use Rattle.std.proofs.lemmas.List.Elements.{All-from_recursion, All-contains}
use Rattle.s4_types.specs.Pointer.{Place}
use Rattle.lemmas.proofs.List.{all_append}
use Rattle.lemmas.proofs.Contains.{contains_first, contains_filter, contains_later}
use Rattle.block_log.specs.Log.{Stored}
use Rattle.segment_word.specs.Frames.{Phase, Free, Open, Sealed, Draining, Frame, is_free, is_open, is_sealed}
use Rattle.segment_word.specs.Layout.{frame_at}
use Rattle.segment_table.specs.declared.slots.Slot.{Slot}
use Rattle.segment_table.specs.Table.{Table, slots_at, held_at, is_of}
use Rattle.segment_table.specs.Room.{is_filling, can_open, numbers, places, rest_of, whole_of, places_ahead}
use Rattle.segment_table.specs.Sealing.{IsFit}
use Rattle.segment_table.specs.Laws.{IsListed, WhatIsListedIsHeld, ListsAllHeld, PlacesAheadAreInNoSealedFrame}
use Rattle.segment_table.proofs.Reading.{IsUsed, held_used}

-- ---- lists

all_flat : {X Y : Type 0} (Q : X → Type 0) (P : Y → Type 0) (h : X → List Y) → ((x : X) → Q x → AllByRecursion P (h x)) → (xs : List X) → AllByRecursion Q xs → AllByRecursion P (flat_map h xs)
all_flat Q P h each [] a = tt
all_flat Q P h each (x ∷ xs) a = all_append P (h x) (flat_map h xs) (each x a.0) (all_flat Q P h each xs a.1)

all_passed : {X : Type 0} (Q P : X → Type 0) (test : X → Bool) → ((x : X) → Q x → test x ≡ true → P x) → (xs : List X) → AllByRecursion Q xs → AllByRecursion P (filter test xs)
all_passed Q P test each [] a = tt
all_passed {X} Q P test each (x ∷ xs) a =
    let rest : AllByRecursion P (filter test xs) = all_passed Q P test each xs a.1 in
    elim (cases_Bool (test x)) [
      | inl passes ↦ subst (λ (b : Bool). AllByRecursion P (cond b (x ∷ filter test xs) (filter test xs))) (sym passes) (each x a.0 passes, rest)
      | inr fails ↦ subst (λ (b : Bool). AllByRecursion P (cond b (x ∷ filter test xs) (filter test xs))) (sym fails) rest
    ]

-- ---- places

all_places : (P : Place → Type 0) (f g b n : ℕ) → ((k : ℕ) → b ≤ k → k < b + n → P (record { frame = f; block = k; generation = g })) → AllByRecursion P (places f g b n)
unfolding places
all_places P f g b zero each = tt
all_places P f g b (suc n) each = (each b (omega arith) (omega arith), all_places P f g (b + 1) n (λ k low high. each k (omega arith) (omega arith)))

has_place : (f g b n k : ℕ) → k < n → Contains (places f g b n) (record { frame = f; block = b + k; generation = g })
unfolding places
has_place f g b zero k h = absurd (omega arith)
has_place f g b (suc n) zero h =
    let at : b ≡ b + 0 = omega arith in
    subst (λ (m : ℕ). Contains (places f g b (suc n)) (record { frame = f; block = m; generation = g })) at (contains_first _ _)
has_place f g b (suc n) (suc k) h =
    let at : b + 1 + k ≡ b + suc k = omega arith in
    subst (λ (m : ℕ). Contains (places f g b (suc n)) (record { frame = f; block = m; generation = g })) at
    (contains_later _ _ _ (has_place f g (b + 1) n k (omega arith)))

all_numbers : (test : Frame → Bool) (P : ℕ → Type 0) (n : ℕ) (ks : List Frame) → ((i : ℕ) → i < length ks → test (frame_at ks i) ≡ true → P (n + i)) → AllByRecursion P (numbers test n ks)
all_numbers test P n [] each = tt
all_numbers test P n (k ∷ ks) each =
    let rest : AllByRecursion P (numbers test (n + 1) ks) = all_numbers test P (n + 1) ks (λ i h passes. (let at : n + suc i ≡ n + 1 + i = omega arith in subst P at (each (suc i) (omega arith) passes))) in
    let first : n + 0 ≡ n = omega arith in
    elim (cases_Bool (test k)) [
      | inl passes ↦ subst (λ (b : Bool). AllByRecursion P (if b then n ∷ numbers test (n + 1) ks else numbers test (n + 1) ks)) (sym passes)
          (subst P first (each 0 (omega arith) passes), rest)
      | inr fails ↦ subst (λ (b : Bool). AllByRecursion P (if b then n ∷ numbers test (n + 1) ks else numbers test (n + 1) ks)) (sym fails) rest
    ]

-- ---- phases

open_unsealed : (p : Phase) → is_open p ≡ true → is_sealed p ≡ false
open_unsealed Free e = refl
open_unsealed Open e = refl
open_unsealed Sealed e = absurd (cc)
open_unsealed Draining e = refl

free_unsealed : (p : Phase) → is_free p ≡ true → is_sealed p ≡ false
free_unsealed Free e = refl
free_unsealed Open e = refl
free_unsealed Sealed e = absurd (cc)
free_unsealed Draining e = refl

-- ---- the laws

pub ahead_unsealed : PlacesAheadAreInNoSealedFrame
ahead_unsealed t p has =
    let frames : List Frame = t.seat.frames in
    let Q : ℕ → Type 0 = λ f. is_sealed (frame_at frames f).phase ≡ false in
    let P : Place → Type 0 = λ q. is_sealed (frame_at frames q.frame).phase ≡ false in
    let from_first : (i : ℕ) → i ≡ 0 + i = λ i. omega arith in
    let filling : AllByRecursion Q (numbers is_filling 0 frames) = all_numbers is_filling Q 0 frames (λ i h passes. subst Q (from_first i) (open_unsealed _ passes)) in
    let vacant : AllByRecursion Q (numbers can_open 0 frames) = all_numbers can_open Q 0 frames
    (λ i h passes. subst Q (from_first i) (free_unsealed _ (and_parts (is_free (frame_at frames i).phase) (nat_lt ((frame_at frames i).generation + 1) (2 ^ 32)) passes).0)) in
    let all : AllByRecursion P (places_ahead t) = all_append P _ _
    (all_flat Q P (rest_of t) (λ f q. all_places P f _ _ _ (λ k low high. q)) (numbers is_filling 0 frames) filling)
    (all_flat Q P (whole_of t) (λ f q. all_places P f _ _ _ (λ k low high. q)) (numbers can_open 0 frames) vacant) in
    All-contains P (places_ahead t) p (All-from_recursion P (places_ahead t) all) has

abbrev none_listed : List Place
none_listed = []

pub listed_held : WhatIsListedIsHeld
listed_held t o f p has = elim (cases_Bool (is_sealed (frame_at t.seat.frames f).phase)) [
  | inl passes ↦ (let test : Place → Bool = λ q. is_of o (held_at t q) in
      let g : ℕ = (frame_at t.seat.frames f).generation in
      let Q : Place → Type 0 = λ q. (q.frame ≡ f) × (q.generation ≡ g) × (1 ≤ q.block) × (q.block ≤ 15) in
      let whole : AllByRecursion Q (whole_of t f) = all_places Q f g 1 15 (λ k low high. (refl, refl, low, omega arith)) in
      let all : AllByRecursion (IsListed t o f) (filter test (whole_of t f)) = all_passed Q (IsListed t o f) test
      (λ q is held. record { frame = is.0; generation = is.1; payload = (is.2, is.3); sealed = passes; held = held }) (whole_of t f) whole in
      let here : Contains (filter test (whole_of t f)) p = subst (λ (b : Bool). Contains (if b then filter test (whole_of t f) else []) p) passes has in
      All-contains (IsListed t o f) _ p (All-from_recursion (IsListed t o f) _ all) here)
  | inr fails ↦ (let here : Contains none_listed p = subst (λ (b : Bool). Contains (if b then filter (λ q. is_of o (held_at t q)) (whole_of t f) else []) p) fails has in
      let none : here.0 < 0 = here.1 in
      absurd (omega arith))
]

pub of_some : (o : ℕ) (held : Option Stored) → is_of o held ≡ true → IsSome held
of_some o None e = absurd (cc)
of_some o (Some block) e = refl

pub lists_all : (t : Table) → ((f : ℕ) → length (slots_at t.slots f) ≤ 15) → ListsAllHeld t
lists_all t few o p sealed held =
    let used : IsUsed (frame_at t.seat.frames p.frame) (slots_at t.slots p.frame) p.block p.generation = held_used _ _ _ _ (of_some o (held_at t p) held) in
    let most : length (slots_at t.slots p.frame) ≤ 15 = few p.frame in
    let low : 1 ≤ p.block = used.low in
    let high : p.block ≤ length (slots_at t.slots p.frame) = used.high in
    let k : ℕ = p.block - 1 in
    let at : 1 + k ≡ p.block = omega arith in
    let has : Contains (whole_of t p.frame) (record { frame = p.frame; block = 1 + k; generation = (frame_at t.seat.frames p.frame).generation }) = has_place p.frame _ 1 15 k (omega arith) in
    let here : Contains (whole_of t p.frame) p = subst (λ (g : ℕ). Contains (whole_of t p.frame) (record { frame = p.frame; block = p.block; generation = g })) used.generation
    (subst (λ (b : ℕ). Contains (whole_of t p.frame) (record { frame = p.frame; block = b; generation = (frame_at t.seat.frames p.frame).generation })) at has) in
    subst (λ (b : Bool). Contains (if b then filter (λ q. is_of o (held_at t q)) (whole_of t p.frame) else []) p) (sym sealed)
    (contains_filter (λ q. is_of o (held_at t q)) p held (whole_of t p.frame) here)

few_outside : (slots : List (List Slot)) (f : ℕ) → length slots ≤ f → length (slots_at slots f) ≤ 15
few_outside [] f h = omega arith
few_outside (s ∷ ss) zero h = absurd (omega arith)
few_outside (s ∷ ss) (suc f) h = few_outside ss f (omega arith)

-- no frame has more than its 15 blocks in use, so that all that is held is listed
pub lists_fit : (t : Table) → length t.slots ≡ length t.seat.frames → ((f : ℕ) → f < length t.seat.frames → IsFit f (frame_at t.seat.frames f) (slots_at t.slots f)) → ListsAllHeld t
lists_fit t counted fit = lists_all t
    (λ f. elim (cases_lt f (length t.seat.frames)) [
      | inl inside ↦ (fit f inside).few
      | inr outside ↦ few_outside t.slots f (omega arith)
    ])
