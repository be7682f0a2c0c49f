-- Older checkpoints in an array of SIDES.
use Rattle.std.proofs.Common.{◌≡◌, inl, inr, ltb, slice_get, Option, None, ℕ, zero, suc, ◌+◌, ◌-◌, ◌<◌, ◌≤◌, List, [], ◌∷◌, ◌++◌, length, take, drop, replicate, set, refl, sym, ap, arith, ◌∙◌, length-append}
use Rattle.std.specs.Option.{option_to_list}
use Rattle.std.proofs.lemmas.Bool.{cases_lt, cond-true, cond-false, lt-ltb, le-ltb}
use Rattle.std.proofs.lemmas.List.{take_at, drop-append-le, drop-replicate, length-drop, length-replicate, set-append_right, append_assoc}
use Rattle.s4_types.specs.declared.limits.TheConstants.{SIDES}
use Rattle.object_map.specs.declared.sides.Side.{Side}
use Rattle.object_map.specs.Sides.{sides_with, side_dropped}
use Rattle.object_map.specs.private.Padding.{no_side, padded_sides}

pub filled : (sides : List Side) → length sides ≤ SIDES → sides ++ drop (length sides) (replicate SIDES no_side) ≡ padded_sides sides
unfolding padded_sides
filled sides few = ap (λ (xs : List Side). sides ++ xs) (drop-replicate (length sides) SIDES no_side)

pub padded_length : (sides : List Side) → length sides ≤ SIDES → length (padded_sides sides) ≡ SIDES
unfolding padded_sides
padded_length sides few = omega (arith, length-append sides (replicate (SIDES - length sides) no_side), length-replicate (SIDES - length sides) no_side, few)

pub padded_cut : (sides : List Side) (n : ℕ) → length sides ≡ n → take n (padded_sides sides) ≡ sides
unfolding padded_sides
padded_cut sides n is = take_at sides (replicate (SIDES - length sides) no_side) n is

-- one more in place of the first blank one
first_blank : (k n : ℕ) (side : Side) → k ≡ n + 1 → set (replicate k no_side) 0 side ≡ side ∷ replicate n no_side
first_blank zero n side is = absurd (omega (arith, is))
first_blank (suc k) n side is = let same : k ≡ n = omega (arith, is) in ap (λ m. side ∷ replicate m no_side) same

pub padded_more : (sides : List Side) (side : Side) → length sides < SIDES → set (padded_sides sides) (length sides) side ≡ padded_sides (sides ++ side ∷ [])
unfolding padded_sides
padded_more sides side few =
    let longer : length (sides ++ side ∷ []) ≡ length sides + 1 = length-append sides (side ∷ []) in
    let at : length sides - length sides ≡ 0 = omega arith in
    let left : SIDES - length sides ≡ (SIDES - length (sides ++ side ∷ [])) + 1 = omega (arith, longer, few) in
    set-append_right sides (replicate (SIDES - length sides) no_side) (length sides) (length sides) side refl (omega arith)
    ∙ ap (λ n. sides ++ set (replicate (SIDES - length sides) no_side) n side) at
    ∙ ap (λ (xs : List Side). sides ++ xs) (first_blank (SIDES - length sides) (SIDES - length (sides ++ side ∷ [])) side left)
    ∙ sym (append_assoc sides (side ∷ []) (replicate (SIDES - length (sides ++ side ∷ [])) no_side))

pub empty_padded : (kept : List Side) → kept ≡ replicate SIDES no_side → (0 ≤ SIDES) × ((length kept ≡ SIDES) × (padded_sides [] ≡ kept))
unfolding padded_sides
empty_padded kept is = (omega arith, (ap length is ∙ length-replicate SIDES no_side, sym is))

-- ---- one more side

-- those that stay leave room for one more
room_left : (sides older kept : List Side) → older ≡ sides → length sides ≤ SIDES → kept ≡ drop (length older + 1 - SIDES) older → length kept < SIDES
room_left sides older kept are few stays =
    let all : length older ≡ length sides = ap length are in
    let left : length kept ≡ length (drop (length older + 1 - SIDES) older) = ap length stays in
    omega (arith, all, few, left, length-drop (length older + 1 - SIDES) older)

cut_more : (kept all : List Side) (side : Side) → all ≡ padded_sides (kept ++ side ∷ []) → take (length kept + 1) all ≡ kept ++ side ∷ []
cut_more kept all side is = ap (λ (xs : List Side). take (length kept + 1) xs) is ∙ padded_cut (kept ++ side ∷ []) (length kept + 1) (length-append kept (side ∷ []))

pub pushed_fits : (sides older kept all : List Side) (side : Side) → older ≡ sides → length sides ≤ SIDES → kept ≡ drop (length older + 1 - SIDES) older → all ≡ padded_sides (kept ++ side ∷ [])
    → (length kept + 1 ≤ SIDES) × ((length all ≡ SIDES) × (padded_sides (take (length kept + 1) all) ≡ all))
pushed_fits sides older kept all side are few stays is =
    let room = room_left sides older kept are few stays in
    let longer : length (kept ++ side ∷ []) ≡ length kept + 1 = length-append kept (side ∷ []) in
    (omega (arith, room), (ap length is ∙ padded_length (kept ++ side ∷ []) (omega (arith, longer, room)), ap padded_sides (cut_more kept all side is) ∙ sym is))

pub pushed_is : (sides older kept all : List Side) (side : Side) → older ≡ sides → length sides ≤ SIDES → kept ≡ drop (length older + 1 - SIDES) older → all ≡ padded_sides (kept ++ side ∷ []) → take (length kept + 1) all ≡ sides_with sides side
pushed_is sides older kept all side are few stays is =
    let count : length older ≡ length sides = ap length are in
    let least : length older + 1 - SIDES ≤ length older = omega (arith, count, few) in
    cut_more kept all side is
    ∙ ap (λ (xs : List Side). xs ++ side ∷ []) stays
    ∙ sym (drop-append-le (length older + 1 - SIDES) older (side ∷ []) least)
    ∙ ap (λ (xs : List Side). sides_with xs side) are

-- what goes and what is kept are all
first_of_full : (sides : List Side) (side : Side) → length sides ≡ SIDES → option_to_list (slice_get sides 0) ++ drop 1 (sides ++ side ∷ []) ≡ sides ++ side ∷ []
first_of_full [] side full = absurd (omega (arith, full))
first_of_full (first ∷ sides) side full = refl

pub all_are : (sides : List Side) (side : Side) → length sides ≤ SIDES → option_to_list (side_dropped sides) ++ sides_with sides side ≡ sides ++ side ∷ []
all_are sides side few = elim (cases_lt (length sides) SIDES) [
  | inl lt ↦
      let none : length sides + 1 - SIDES ≡ 0 = omega (arith, lt) in
      ap (λ (gone : Option Side). option_to_list gone ++ sides_with sides side) (cond-true (ltb (length sides) SIDES) None (slice_get sides 0) (lt-ltb (length sides) SIDES lt))
      ∙ ap (λ n. drop n (sides ++ side ∷ [])) none
  | inr le ↦
      let one : length sides + 1 - SIDES ≡ 1 = omega (arith, few, le) in
      ap (λ (gone : Option Side). option_to_list gone ++ sides_with sides side) (cond-false (ltb (length sides) SIDES) None (slice_get sides 0) (le-ltb (length sides) SIDES le))
      ∙ ap (λ n. option_to_list (slice_get sides 0) ++ drop n (sides ++ side ∷ [])) one
      ∙ first_of_full sides side (omega (arith, few, le))
]

pub pushed_all : (sides older kept all : List Side) (side : Side) (gone : Option Side) → older ≡ sides → length sides ≤ SIDES → kept ≡ drop (length older + 1 - SIDES) older → all ≡ padded_sides (kept ++ side ∷ []) → gone ≡ side_dropped older
    → option_to_list gone ++ take (length kept + 1) all ≡ sides ++ side ∷ []
pushed_all sides older kept all side gone are few stays is goes =
    ap (λ (x : Option Side). option_to_list x ++ take (length kept + 1) all) (goes ∙ ap side_dropped are)
    ∙ ap (λ (xs : List Side). option_to_list (side_dropped sides) ++ xs) (pushed_is sides older kept all side are few stays is)
    ∙ all_are sides side few
