-- A store of objects of a drive that was saved: what is beside its rows.
use Rattle.std.proofs.Common.{◌≡◌, ℕ, ◌<◌, ◌++◌, true, false, Bool, List, [], ◌∷◌, map, length, take, drop, suc, get_or, Option, Some, None, refl, sym, ap, subst, ◌∙◌, ◌⊎◌, inl, inr, arith, take-append-drop, drop-cons}
use Rattle.std.specs.Prelude.{option_map}
use Rattle.std.specs.List.{All}
use Rattle.std.specs.BTreeMap.{is_at}
use Rattle.std.specs.Ordering.{nat_cmp}
use Rattle.std.proofs.lemmas.Bool.{cases_Bool, cond-true, cond-false}
use Rattle.std.proofs.lemmas.Bool.Decides.{nat_tests}
use Rattle.std.proofs.lemmas.List.{map-append, map-id}
use Rattle.std.proofs.lemmas.List.Elements.{All-nil, All-cons, All-head, All-tail}
use Rattle.block_log.specs.Log.{Log}
use Rattle.codec.specs.declared.inodes.Inode.{Inode}
use Rattle.object_map.specs.declared.map.Row.{Row}
use Rattle.object_map.specs.Objects.{value_of, AreBelow}
use Rattle.object_map.specs.Rows.{row_of}
use Rattle.time_read.specs.Rows.{entries_of, inode_of}
use Rattle.time_read.specs.declared.presents.Present.{Present}
use Rattle.version_store.specs.Opening.{OpenedFields, numbers_opened, rows_opened, AscendAbove, NumbersAscend, FitsItsRow}
use Rattle.version_store.specs.Store.{StoreFields}
use Rattle.version_store.specs.Versions.{inode_by, entries_of_row, entries_of_object}
use Rattle.time_read.specs.Presents.{KeepsIndexOf}
use Rattle.version_store.specs.private.Beside.{IsBeside}
use Rattle.version_store.specs.private.Opening.{present_of, presents_opened}
use Rattle.version_store.proofs.Cached.{none_true}

-- ---- numbers that ascend

below_in : (low : ℕ) (xs : List OpenedFields) (x : OpenedFields) (rest : List OpenedFields) → AscendAbove low (numbers_opened (xs ++ x ∷ rest)) → (low < x.object) × AreBelow (rows_opened xs) x.object
below_in low [] x rest up = (up.0, All-nil (λ (e : ℕ × Row). e.0 < x.object))
below_in low (y ∷ xs) x rest up =
    let behind = below_in y.object xs x rest up.1 in
    let first = up.0 in
    let then = behind.0 in
    (omega (arith, first, then), All-cons (λ (e : ℕ × Row). e.0 < x.object) (y.object, y.row) (rows_opened xs) behind.0 behind.1)

-- where numbers ascend, all in front of an object are below it
pub all_below : (xs : List OpenedFields) (x : OpenedFields) (rest : List OpenedFields) → NumbersAscend (numbers_opened (xs ++ x ∷ rest)) → AreBelow (rows_opened xs) x.object
all_below [] x rest up = All-nil (λ (e : ℕ × Row). e.0 < x.object)
all_below (y ∷ xs) x rest up =
    let behind = below_in y.object xs x rest up in
    All-cons (λ (e : ℕ × Row). e.0 < x.object) (y.object, y.row) (rows_opened xs) behind.0 behind.1

not_at : (o k : ℕ) → k < o → is_at (nat_cmp o) k ≡ false
not_at o k below = grind (arith, nat_tests)

-- an object above all those of a map has no row there
pub none_below : (rows : List (ℕ × Row)) (o : ℕ) → AreBelow rows o → row_of rows o ≡ None
none_below [] o below = refl
none_below (e ∷ rows) o below =
    let P : ℕ × Row → Type 0 = λ f. f.0 < o in
    cond-false (is_at (nat_cmp o) e.0) (Some e.1) (row_of rows o) (not_at o e.0 (All-head P e rows below)) ∙ none_below rows o (All-tail P e rows below)

-- the items before one, itself, and those after it
pub passed_here : {X : Type 0} (all passed : List X) (x : X) → map (λ y. y) passed ≡ take (length passed) all → (length passed < length all) × (x ≡ get_or all (length passed) x)
    → passed ++ (x ∷ drop (suc (length passed)) all) ≡ all
passed_here all passed x front here =
    let n = length passed in
    ap (λ ys. ys ++ (x ∷ drop (suc n) all)) (sym (map-id passed) ∙ front)
    ∙ ap (λ ys. take n all ++ ys) (ap (λ y. y ∷ drop (suc n) all) here.1 ∙ sym (drop-cons all n x here.0))
    ∙ take-append-drop n all

-- where numbers ascend, an object is above all that were passed
pub below_here : (all passed : List OpenedFields) (x : OpenedFields) (rows : List (ℕ × Row)) (o : ℕ) → map (λ y. y) passed ≡ take (length passed) all
    → (length passed < length all) × (x ≡ get_or all (length passed) x) → NumbersAscend (numbers_opened all) → rows ≡ rows_opened passed → o ≡ x.object → AreBelow rows o
below_here all passed x rows o front here up kept number =
    let rest = drop (suc (length passed)) all in
    let ascend = subst (λ (xs : List OpenedFields). NumbersAscend (numbers_opened xs)) (sym (passed_here all passed x front here)) up in
    subst (λ (n : ℕ). AreBelow rows n) (sym number) (subst (λ (r : List (ℕ × Row)). AreBelow r x.object) (sym kept) (all_below passed x rest ascend))

-- one more object's row, and what is beside it
pub one_more_row : (passed : List OpenedFields) (x v : OpenedFields) (rows after : List (ℕ × Row)) → v ≡ x → rows ≡ rows_opened passed → after ≡ rows ++ (v.object, v.row) ∷ [] → after ≡ rows_opened (passed ++ x ∷ [])
one_more_row passed x v rows after same kept is =
    is ∙ ap (λ (r : List (ℕ × Row)). r ++ (v.object, v.row) ∷ []) kept ∙ ap (λ (y : OpenedFields). rows_opened passed ++ (y.object, y.row) ∷ []) same
    ∙ sym (map-append (λ (y : OpenedFields). (y.object, y.row)) passed (x ∷ []))

pub one_more_present : (passed : List OpenedFields) (x v : OpenedFields) (values after : List (ℕ × Present)) → v ≡ x → values ≡ presents_opened passed → after ≡ values ++ (v.object, present_of v) ∷ [] → after ≡ presents_opened (passed ++ x ∷ [])
one_more_present passed x v values after same kept is =
    is ∙ ap (λ (r : List (ℕ × Present)). r ++ (v.object, present_of v) ∷ []) kept ∙ ap (λ (y : OpenedFields). presents_opened passed ++ (y.object, present_of y) ∷ []) same
    ∙ sym (map-append (λ (y : OpenedFields). (y.object, present_of y)) passed (x ∷ []))

-- ---- what is found of an object

-- of these objects one has this number
pub record IsAmong (P : OpenedFields → Type 0) (objects : List OpenedFields) (o : ℕ) : Type 0 where
  pub opened : OpenedFields
  pub holds : P opened
  pub number : opened.object ≡ o
  pub row : row_of (rows_opened objects) o ≡ Some opened.row
  pub value : value_of (presents_opened objects) o ≡ Some (present_of opened)

-- none has
pub record IsNotAmong (objects : List OpenedFields) (o : ℕ) : Type 0 where
  pub row : row_of (rows_opened objects) o ≡ None
  pub value : value_of (presents_opened objects) o ≡ None

is_number : (o k : ℕ) → is_at (nat_cmp o) k ≡ true → k ≡ o
is_number o k is = grind (arith, nat_tests)

pub found_among : (P : OpenedFields → Type 0) (objects : List OpenedFields) (o : ℕ) → All P objects → IsAmong P objects o ⊎ IsNotAmong objects o
found_among P [] o all = inr (record { row = refl; value = refl })
found_among P (x ∷ xs) o all =
    let test : Bool = is_at (nat_cmp o) x.object in
    elim (cases_Bool test) [
      | inl is ↦ inl (record {
        opened = x;
        holds = All-head P x xs all;
        number = is_number o x.object is;
        row = cond-true test (Some x.row) (row_of (rows_opened xs) o) is;
        value = cond-true test (Some (present_of x)) (value_of (presents_opened xs) o) is;
      })
      | inr other ↦ elim (found_among P xs o (All-tail P x xs all)) [
        | inl found ↦ inl (record {
          opened = found.opened;
          holds = found.holds;
          number = found.number;
          row = cond-false test (Some x.row) (row_of (rows_opened xs) o) other ∙ found.row;
          value = cond-false test (Some (present_of x)) (value_of (presents_opened xs) o) other ∙ found.value;
        })
        | inr none ↦ inr (record {
          row = cond-false test (Some x.row) (row_of (rows_opened xs) o) other ∙ none.row;
          value = cond-false test (Some (present_of x)) (value_of (presents_opened xs) o) other ∙ none.value;
        })
      ]
    ]

-- beside the rows of objects that fit their rows stand their present inodes and the indexes of their entries
pub opened_beside : (log : Log) (latest : ℕ) (objects : List OpenedFields) → All (FitsItsRow log.held latest) objects
    → IsBeside (presents_opened objects) [] (record { rows = rows_opened objects; log = log; latest = latest })
opened_beside log latest objects all =
    let s : StoreFields = record { rows = rows_opened objects; log = log; latest = latest } in
    let values = presents_opened objects in
    record {
      inodes = λ o. elim (found_among (FitsItsRow log.held latest) objects o all) [
        | inl found ↦
            let x = found.opened in
            let there : row_of s.rows o ≡ Some x.row = found.row in
            let inode : x.inode ≡ inode_of log.held o x.row latest = found.holds.inode ∙ ap (λ (n : ℕ). inode_of log.held n x.row latest) found.number in
            ap (option_map (λ (p : Present). p.inode)) found.value ∙ ap (λ (i : Inode). Some i) inode ∙ sym (ap (inode_by log.held o latest) there)
        | inr none ↦ ap (option_map (λ (p : Present). p.inode)) none.value ∙ sym (ap (inode_by log.held o latest) none.row)
      ];
      indexes = λ o. elim (found_among (FitsItsRow log.held latest) objects o all) [
        | inl found ↦
            let x = found.opened in
            let told : KeepsIndexOf (Some (present_of x)) (entries_of log.held o x.row) =
            subst (λ (n : ℕ). KeepsIndexOf (Some (present_of x)) (entries_of log.held n x.row)) found.number found.holds.entries in
            subst (λ (p : Option Present). KeepsIndexOf p (entries_of_object s o)) (sym found.value)
            (subst (λ (r : Option Row). KeepsIndexOf (Some (present_of x)) (entries_of_row log.held o r)) (sym found.row) told)
        | inr none ↦ subst (λ (p : Option Present). KeepsIndexOf p (entries_of_object s o)) (sym none.value) tt
      ];
      cached = none_true log.held (rows_opened objects) [] refl;
    }
