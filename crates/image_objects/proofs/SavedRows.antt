-- Rows of a store that are listed by ascending object, and those of the image that they are saved as.
use Rattle.std.proofs.Common.{◌≡◌, inl, inr, ℕ, ◌+◌, ◌<◌, ◌≤◌, ◌==◌, List, [], ◌∷◌, Some, sym, ap, ◌∙◌, subst, arith}
use Rattle.std.specs.List.{Contains, AllByRecursion}
use Rattle.std.proofs.lemmas.Bool.{cases_Bool, eqb-true, eq-eqb, false≢true}
use Rattle.std.proofs.lemmas.Option.{none-some, same_Some}
use Rattle.lemmas.proofs.Contains.{contains_none, contains_first, contains_later, contains_cases}
use Rattle.object_map.specs.declared.map.Row.{Row}
use Rattle.object_map.specs.Rows.{row_of}
use Rattle.image_objects.specs.declared.rows.ImageRow.{ImageRow}
use Rattle.image_objects.specs.Rows.{RowsAscend}
use Rattle.image_objects.specs.Saved.{ObjectsAscend, saved_row, saved_rows}
use Rattle.image_objects.proofs.Kept.{found_here, found_behind}

-- each is of an object from this number on
pub object_from : (low : ℕ) (rows : List (ℕ × Row)) (e : ℕ × Row) → ObjectsAscend low rows → Contains rows e → low ≤ e.0
object_from low [] e ascend there = absurd (contains_none e there)
object_from low (x ∷ rows) e ascend there = elim (contains_cases x rows e there) [
  | inl is ↦ subst (λ (r : ℕ × Row). low ≤ r.0) is ascend.0
  | inr behind ↦ (let later = object_from (x.0 + 1) rows e ascend.1 behind in omega (arith, ascend.0, later))
]

-- the row that is listed is found by its object
pub listed_found : (low : ℕ) (rows : List (ℕ × Row)) (e : ℕ × Row) → ObjectsAscend low rows → Contains rows e → row_of rows e.0 ≡ Some e.1
listed_found low [] e ascend there = absurd (contains_none e there)
listed_found low (x ∷ rows) e ascend there = elim (contains_cases x rows e there) [
  | inl is ↦ found_here rows e.0 x.0 x.1 (ap (λ (r : ℕ × Row). r.0) is) ∙ ap (λ (r : ℕ × Row). Some r.1) is
  | inr behind ↦
      let later = object_from (x.0 + 1) rows e ascend.1 behind in
      found_behind rows e.0 x.0 x.1 (λ same. omega (arith, later, same)) ∙ listed_found (x.0 + 1) rows e ascend.1 behind
]

-- and the row that is found is listed
pub found_listed : (rows : List (ℕ × Row)) (o : ℕ) (row : Row) → row_of rows o ≡ Some row → Contains rows (o, row)
found_listed [] o row h = absurd (none-some row h)
found_listed (x ∷ rows) o row h = elim (cases_Bool (x.0 == o)) [
  | inl is ↦
      let object : x.0 ≡ o = eqb-true x.0 o is in
      let same : x.1 ≡ row = same_Some x.1 row (sym (found_here rows o x.0 x.1 object) ∙ h) in
      let pair : x ≡ (o, row) = ap (λ n. (n, x.1)) object ∙ ap (λ (r : Row). (o, r)) same in
      subst (λ (e : ℕ × Row). Contains (x ∷ rows) e) pair (contains_first x rows)
  | inr ne ↦
      let apart : x.0 ≡ o → ⊥ = λ same. false≢true (sym ne ∙ eq-eqb x.0 o same) in
      contains_later x rows (o, row) (found_listed rows o row (sym (found_behind rows o x.0 x.1 apart) ∙ h))
]

-- ---- the rows of the image

-- a row that is listed is saved, and a row of the image is one that was saved
pub is_saved : (rows : List (ℕ × Row)) (e : ℕ × Row) → Contains rows e → Contains (saved_rows rows) (saved_row e.0 e.1)
is_saved [] e there = absurd (contains_none e there)
is_saved (x ∷ rows) e there = elim (contains_cases x rows e there) [
  | inl is ↦ subst (λ (r : ℕ × Row). Contains (saved_rows (x ∷ rows)) (saved_row r.0 r.1)) is (contains_first (saved_row x.0 x.1) (saved_rows rows))
  | inr behind ↦ contains_later (saved_row x.0 x.1) (saved_rows rows) (saved_row e.0 e.1) (is_saved rows e behind)
]

pub was_saved : (rows : List (ℕ × Row)) (row : ImageRow) → Contains (saved_rows rows) row → (e : ℕ × Row) × Contains rows e × (saved_row e.0 e.1 ≡ row)
was_saved [] row there = absurd (contains_none row there)
was_saved (x ∷ rows) row there = elim (contains_cases (saved_row x.0 x.1) (saved_rows rows) row there) [
  | inl is ↦ (x, contains_first x rows, is)
  | inr behind ↦ (let (e, listed, same) = was_saved rows row behind in (e, contains_later x rows e listed, same))
]

-- what is so of each row as it is saved is so of each row of the image
pub all_saved : (P : ImageRow → Type 0) (rows : List (ℕ × Row)) → ((e : ℕ × Row) → Contains rows e → P (saved_row e.0 e.1)) → AllByRecursion P (saved_rows rows)
all_saved P [] each = tt
all_saved P (x ∷ rows) each = (each x (contains_first x rows), all_saved P rows (λ e there. each e (contains_later x rows e there)))

-- each object is above the first number, and was made after the second, by the clock
abbrev pub EachAbove : ℕ → ℕ → ℕ → List (ℕ × Row) → Type 0
EachAbove clock object created rows = (e : ℕ × Row) → Contains rows e → (object < e.0) × (created < e.1.created) × (e.1.created ≤ clock)

-- of two, the one with the greater object was made later
abbrev pub MadeLater : List (ℕ × Row) → Type 0
MadeLater rows = (a b : ℕ × Row) → Contains rows a → Contains rows b → a.0 < b.0 → a.1.created < b.1.created

pub saved_ascend : (clock object created low : ℕ) (rows : List (ℕ × Row)) → ObjectsAscend low rows → EachAbove clock object created rows → MadeLater rows → RowsAscend clock object created (saved_rows rows)
saved_ascend clock object created low [] ascend each later = tt
saved_ascend clock object created low (x ∷ rows) ascend each later =
    let (above, behind, by) = each x (contains_first x rows) in
    let rest : EachAbove clock x.0 x.1.created rows = λ e there.
    (let listed = contains_later x rows e there in
    let from = object_from (x.0 + 1) rows e ascend.1 there in
    let next : x.0 < e.0 = omega (arith, from) in
    (next, later x e (contains_first x rows) listed next, (each e listed).2)) in
    (above, behind, by, saved_ascend clock x.0 x.1.created (x.0 + 1) rows ascend.1 rest (λ a b first second less. later a b (contains_later x rows a first) (contains_later x rows b second) less))
