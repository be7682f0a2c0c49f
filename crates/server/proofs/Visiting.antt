-- Objects that are due, by their numbers, and the first Delete, by which it is decided whether an object can be removed.
use Rattle.std.proofs.Common.{◌≡◌, ℕ, ◌<◌, ◌||◌, nat_le, Bool, true, false, cond, List, [], ◌∷◌, map, filter, All, Some, refl, sym, ap, subst, ◌∙◌, arith}
use Rattle.std.proofs.lemmas.Bool.{or_from}
use Rattle.std.proofs.lemmas.Option.{none-some}
use Rattle.std.proofs.lemmas.Bool.Decides.{nat_tests}
use Rattle.std.proofs.lemmas.List.Elements.{All-head, All-tail}
use Rattle.std.proofs.lemmas.Map.Keys.{sorted_head, sorted_tail}
use Rattle.std.specs.List.{AllByRecursion, list_any, slice_get}
use Rattle.std.specs.List.Sorted.{IsStrictlySortedBy}
use Rattle.std.specs.Option.{unwrap_or}
use Rattle.std.specs.Map.{keys_of}
use Rattle.std.specs.BTreeMap.Range.{IsLeBy}
use Rattle.std.specs.Ordering.{nat_cmp}
use Rattle.std.specs.declared.cmp.Ordering.TheVariants.{Less}
use Rattle.server.specs.Agenda.{due_objects, is_removal}

all_if : (P : ℕ → Type 0) (b : Bool) (e : ℕ × ℕ) (es : List (ℕ × ℕ)) → P e.0 → AllByRecursion P (keys_of es) → AllByRecursion P (keys_of (cond b (e ∷ es) es))
all_if P true e es one rest = (one, rest)
all_if P false e es one rest = rest

-- what holds of all objects holds of those that are due
all_due : (P : ℕ → Type 0) (last : ℕ) (floors : List (ℕ × ℕ)) → AllByRecursion P (keys_of floors) → AllByRecursion P (due_objects last floors)
all_due P last [] all = all
all_due P last (e ∷ es) all = all_if P (nat_le e.1 last) e (filter (λ (pair : ℕ × ℕ). nat_le pair.1 last) es) all.0 (all_due P last es all.1)

sorted_if : (b : Bool) (e : ℕ × ℕ) (es : List (ℕ × ℕ)) → AllByRecursion (λ y. nat_cmp e.0 y ≡ Less) (keys_of es) → IsStrictlySortedBy nat_cmp (keys_of es) → IsStrictlySortedBy nat_cmp (keys_of (cond b (e ∷ es) es))
unfolding IsStrictlySortedBy
sorted_if true e es below sorted = (below, sorted)
sorted_if false e es below sorted = sorted

-- the objects that are due ascend
pub sorted_due : (last : ℕ) (floors : List (ℕ × ℕ)) → IsStrictlySortedBy nat_cmp (keys_of floors) → IsStrictlySortedBy nat_cmp (due_objects last floors)
sorted_due last [] sorted = sorted
sorted_due last (e ∷ es) sorted =
    sorted_if (nat_le e.1 last) e (filter (λ (pair : ℕ × ℕ). nat_le pair.1 last) es)
    (all_due (λ y. nat_cmp e.0 y ≡ Less) last es (sorted_head nat_cmp e.0 (keys_of es) sorted))
    (sorted_due last es (sorted_tail nat_cmp e.0 (keys_of es) sorted))

-- where each moment is at least one above the floor, no Delete has passed it
none_passed : (floor first : ℕ) (deleted : List (ℕ × ℕ)) → nat_le first floor ≡ false → All (IsLeBy nat_cmp first) (keys_of deleted) → list_any (is_removal floor) deleted ≡ false
none_passed floor first [] above all = refl
none_passed floor first (e ∷ es) above all =
    let at : IsLeBy nat_cmp first e.0 = All-head (IsLeBy nat_cmp first) e.0 (keys_of es) all in
    let here : nat_le e.0 floor ≡ false = grind (arith, nat_tests, at, above) in
    or_from (nat_le e.0 floor) (list_any (is_removal floor) es) here (none_passed floor first es above (All-tail (IsLeBy nat_cmp first) e.0 (keys_of es) all))

passed_if : (b : Bool) (floor : ℕ) (moment object : ℕ) (es : List (ℕ × ℕ)) → nat_le moment floor ≡ b → All (IsLeBy nat_cmp moment) (keys_of ((moment, object) ∷ es)) → nat_le moment floor ≡ list_any (is_removal floor) ((moment, object) ∷ es)
passed_if true floor moment object es is all = is ∙ sym (ap (λ b. b || list_any (is_removal floor) es) is)
passed_if false floor moment object es is all = is ∙ sym (none_passed floor moment ((moment, object) ∷ es) is all)

-- the first Delete decides whether one has passed the floor
pub first_decides : (floor moment object : ℕ) (deleted : List (ℕ × ℕ)) → slice_get deleted 0 ≡ Some (moment, object) → All (IsLeBy nat_cmp moment) (keys_of deleted) → nat_le moment floor ≡ list_any (is_removal floor) deleted
first_decides floor moment object [] first all = absurd (none-some (moment, object) first)
first_decides floor moment object (e ∷ es) first all =
    let same : e ≡ (moment, object) = ap (λ found. unwrap_or found (moment, object)) first in
    subst (λ (f : ℕ × ℕ). nat_le moment floor ≡ list_any (is_removal floor) (f ∷ es)) (sym same)
    (passed_if (nat_le moment floor) floor moment object es refl (subst (λ (f : ℕ × ℕ). All (IsLeBy nat_cmp moment) (keys_of (f ∷ es))) same all))
