-- Rows that are listed by ascending object, and what is found in the list.
use Rattle.std.proofs.Common.{◌≡◌, ℕ, ◌+◌, ◌<◌, ◌≤◌, ◌==◌, cond, List, [], ◌∷◌, ◌++◌, Some, None, refl, ap, ◌∙◌, arith}
use Rattle.std.specs.List.{AllByRecursion}
use Rattle.std.specs.BTreeMap.{is_at}
use Rattle.std.specs.Ordering.{nat_cmp}
use Rattle.std.specs.Cmp.{unsigned_tied}
use Rattle.std.proofs.lemmas.Bool.{cond-true, cond-false, eq-eqb, ne_eqb}
use Rattle.object_map.specs.declared.map.Row.{Row}
use Rattle.object_map.specs.Rows.{row_of}
use Rattle.image_objects.specs.Saved.{ObjectsAscend}
use Rattle.verifier.proofs.Lists.{all_both}

-- a row is found by its own object
at_is : (o k : ℕ) → is_at (nat_cmp o) k ≡ (o == k)
at_is o k = unsigned_tied o k

pub found_here : (rows : List (ℕ × Row)) (o : ℕ) (row : Row) → row_of ((o, row) ∷ rows) o ≡ Some row
found_here rows o row = cond-true (is_at (nat_cmp o) o) (Some row) (row_of rows o) (at_is o o ∙ eq-eqb o o refl)

pub found_behind : (rows : List (ℕ × Row)) (o k : ℕ) (row : Row) → (o ≡ k → ⊥) → row_of ((k, row) ∷ rows) o ≡ row_of rows o
found_behind rows o k row apart = cond-false (is_at (nat_cmp o) k) (Some row) (row_of rows o) (at_is o k ∙ ne_eqb o k apart)

-- none of an object above all that are listed
pub none_beyond : (rows : List (ℕ × Row)) (last o : ℕ) → AllByRecursion (λ e. e.0 ≤ last) rows → last < o → row_of rows o ≡ None
none_beyond [] last o below lt = refl
none_beyond (e ∷ rows) last o below lt = found_behind rows o e.0 e.1 (λ is. omega (arith, below.0)) ∙ none_beyond rows last o below.1 lt

-- none of an object below all that are listed
pub none_before : (rows : List (ℕ × Row)) (low o : ℕ) → ObjectsAscend low rows → o < low → row_of rows o ≡ None
none_before [] low o ascend lt = refl
none_before (e ∷ rows) low o ascend lt = found_behind rows o e.0 e.1 (λ is. omega (arith, ascend.0)) ∙ none_before rows (e.0 + 1) o ascend.1 (omega (arith, ascend.0))

-- with one more row after them all others are found as before
pub found_as_before : (rows : List (ℕ × Row)) (o k : ℕ) (row : Row) → (o ≡ k → ⊥) → row_of (rows ++ (k, row) ∷ []) o ≡ row_of rows o
found_as_before [] o k row apart = found_behind [] o k row apart
found_as_before (e ∷ rows) o k row apart = ap (λ r. cond (is_at (nat_cmp o) e.0) (Some e.1) r) (found_as_before rows o k row apart)

-- and so is it itself
pub found_last : (rows : List (ℕ × Row)) (last o : ℕ) (row : Row) → AllByRecursion (λ e. e.0 ≤ last) rows → last < o → row_of (rows ++ (o, row) ∷ []) o ≡ Some row
found_last [] last o row below lt = found_here [] o row
found_last (e ∷ rows) last o row below lt = found_behind (rows ++ (o, row) ∷ []) o e.0 e.1 (λ is. omega (arith, below.0)) ∙ found_last rows last o row below.1 lt

pub ascend_push : (rows : List (ℕ × Row)) (low last o : ℕ) (row : Row) → ObjectsAscend low rows → AllByRecursion (λ e. e.0 ≤ last) rows → low ≤ o → last < o → ObjectsAscend low (rows ++ (o, row) ∷ [])
ascend_push [] low last o row ascend below from lt = (from, tt)
ascend_push (e ∷ rows) low last o row ascend below from lt = (ascend.0, ascend_push rows (e.0 + 1) last o row ascend.1 below.1 (omega (arith, below.0)) lt)

-- all are of objects from where they begin
all_from : (rows : List (ℕ × Row)) (low least : ℕ) → least ≤ low → ObjectsAscend low rows → AllByRecursion (λ e. least ≤ e.0) rows
all_from [] low least le ascend = tt
all_from (e ∷ rows) low least le ascend = (omega (arith, ascend.0), all_from rows (e.0 + 1) least (omega (arith, ascend.0)) ascend.1)

-- each row that is listed is found
pub each_found : (rows : List (ℕ × Row)) (low : ℕ) → ObjectsAscend low rows → AllByRecursion (λ e. row_of rows e.0 ≡ Some e.1) rows
each_found [] low ascend = tt
each_found (e ∷ rows) low ascend = (
  found_here rows e.0 e.1,
  all_both (λ (x : ℕ × Row). e.0 + 1 ≤ x.0) (λ (x : ℕ × Row). row_of rows x.0 ≡ Some x.1) (λ (x : ℕ × Row). row_of (e ∷ rows) x.0 ≡ Some x.1)
      (λ x later found. found_behind rows x.0 e.0 e.1 (λ is. omega (arith, later)) ∙ found) rows
      (all_from rows (e.0 + 1) (e.0 + 1) (omega arith) ascend.1) (each_found rows (e.0 + 1) ascend.1),
)
