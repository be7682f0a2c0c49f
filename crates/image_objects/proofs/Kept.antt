-- The rows that a drive keeps of those of an image, by their objects.
use Rattle.std.proofs.Common.{◌≡◌, inl, inr, ℕ, ◌<◌, ◌≤◌, ◌==◌, List, [], ◌∷◌, Option, Some, None, refl, sym, ap, ◌∙◌, arith}
use Rattle.std.specs.List.{Contains, AllByRecursion}
use Rattle.std.specs.BTreeMap.{is_at}
use Rattle.std.specs.Ordering.{nat_cmp}
use Rattle.std.specs.Cmp.{unsigned_tied}
use Rattle.std.proofs.lemmas.Bool.{cases_Bool, cond-true, cond-false, eq-eqb, eqb-true, ne_eqb, false≢true}
use Rattle.std.proofs.lemmas.List.Elements.{All-contains, All-from_recursion, Contains-append_left, Contains-append_right}
use Rattle.std.proofs.lemmas.Option.{none-some, same_Some}
use Rattle.s4_types.specs.Pointer.{Place}
use Rattle.lemmas.proofs.Contains.{contains_none, contains_cases}
use Rattle.block_log.specs.Log.{Stored}
use Rattle.object_map.specs.declared.map.Row.{Row}
use Rattle.object_map.specs.Rows.{row_of}
use Rattle.image_objects.specs.declared.rows.ImageRow.{ImageRow}
use Rattle.image_objects.specs.VersionChain.{kept_row}
use Rattle.image_objects.specs.Rows.{RowsAscend, kept_rows}
use Rattle.image_objects.proofs.Listed.{above}

-- a row is found by its own object
at_is : (o k : ℕ) → is_at (nat_cmp o) k ≡ (o == k)
at_is o k = unsigned_tied o k

pub found_here : (rows : List (ℕ × Row)) (o k : ℕ) (row : Row) → k ≡ o → row_of ((k, row) ∷ rows) o ≡ Some row
found_here rows o k row is = cond-true (is_at (nat_cmp o) k) (Some row) (row_of rows o) (at_is o k ∙ eq-eqb o k (sym is))

pub found_behind : (rows : List (ℕ × Row)) (o k : ℕ) (row : Row) → (k ≡ o → ⊥) → row_of ((k, row) ∷ rows) o ≡ row_of rows o
found_behind rows o k row apart = cond-false (is_at (nat_cmp o) k) (Some row) (row_of rows o) (at_is o k ∙ ne_eqb o k (λ (is : o ≡ k). apart (sym is)))

-- a row that is found is one of the image's
pub row_found : (used : Place → Option Stored) (rows : List ImageRow) (o : ℕ) (found : Row) → row_of (kept_rows used rows) o ≡ Some found → (row : ImageRow) × Contains rows row × (row.object ≡ o) × (found ≡ kept_row used row 0)
row_found used [] o found h = absurd (none-some found h)
row_found used (x ∷ rows) o found h = elim (cases_Bool (x.object == o)) [
  | inl is ↦
      let object : x.object ≡ o = eqb-true x.object o is in
      (x, Contains-append_left (x ∷ []) rows x (0, omega arith, refl), object, same_Some found (kept_row used x 0) (sym h ∙ found_here (kept_rows used rows) o x.object (kept_row used x 0) object))
  | inr ne ↦
      let apart : x.object ≡ o → ⊥ = λ is. false≢true (sym ne ∙ eq-eqb x.object o is) in
      let (row, there, object, kept) = row_found used rows o found (sym (found_behind (kept_rows used rows) o x.object (kept_row used x 0) apart) ∙ h) in
      (row, Contains-append_right (x ∷ []) rows row there, object, kept)
]

pub row_there : (used : Place → Option Stored) (clock low made : ℕ) (rows : List ImageRow) (row : ImageRow) → RowsAscend clock low made rows → Contains rows row → row_of (kept_rows used rows) row.object ≡ Some (kept_row used row 0)
row_there used clock low made [] row ascend there = absurd (contains_none row there)
row_there used clock low made (x ∷ rows) row ascend there = elim (contains_cases x rows row there) [
  | inl is ↦ found_here (kept_rows used rows) row.object x.object (kept_row used x 0) (ap (λ (r : ImageRow). r.object) is) ∙ ap (λ (r : ImageRow). Some (kept_row used r 0)) is
  | inr behind ↦
      let later = above clock x.object x.created rows row ascend.3 behind in
      found_behind (kept_rows used rows) row.object x.object (kept_row used x 0) (λ is. omega (arith, later.0, is)) ∙ row_there used clock x.object x.created rows row ascend.3 behind
]

none_found : (used : Place → Option Stored) (rows : List ImageRow) (o : ℕ) (found : Option Row) → row_of (kept_rows used rows) o ≡ found → ((row : ImageRow) → Contains rows row → row.object ≡ o → ⊥) → found ≡ None
none_found used rows o None h none = refl
none_found used rows o (Some found) h none = let (row, there, object, kept) = row_found used rows o found h in absurd (none row there object)

pub no_row : (used : Place → Option Stored) (rows : List ImageRow) (o : ℕ) → ((row : ImageRow) → Contains rows row → row.object ≡ o → ⊥) → row_of (kept_rows used rows) o ≡ None
no_row used rows o none = none_found used rows o (row_of (kept_rows used rows) o) refl none

pub none_above : (used : Place → Option Stored) (rows : List ImageRow) (next o : ℕ) → AllByRecursion (λ row. row.object < next) rows → next ≤ o → row_of (kept_rows used rows) o ≡ None
none_above used rows next o below le =
    let P : ImageRow → Type 0 = λ row. row.object < next in
    no_row used rows o (λ row there object. let less : row.object < next = All-contains P rows row (All-from_recursion P rows below) there in omega (arith, less, object, le))
