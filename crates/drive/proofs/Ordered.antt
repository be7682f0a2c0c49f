-- Where the rows of a store are by ascending objects, a base lists their versions in the same order.
use Rattle.std.proofs.Common.{◌≡◌, ℕ, ◌<◌, ◌≤◌, ◌+◌, cond, inl, inr, List, [], ◌∷◌, Option, None, Some, map, refl, sym, ap, subst, ◌∙◌, arith}
use Rattle.std.proofs.lemmas.Bool.{cases_eq, cases_order}
use Rattle.std.proofs.lemmas.Option.{none-some}
use Rattle.std.specs.Prelude.{zero, suc}
use Rattle.std.specs.Cmp.{nat_cmp_is}
use Rattle.std.specs.List.{cons_option}
use Rattle.std.specs.Ordering.{is_eq}
use Rattle.std.specs.declared.cmp.Ordering.{Ordering}
use Rattle.std.specs.declared.cmp.Ordering.TheVariants.{Less, Equal, Greater}
use Rattle.s4_types.specs.Pointer.{Place}
use Rattle.s4_types.specs.declared.versions.Version.{Version}
use Rattle.block_log.specs.Log.{Stored}
use Rattle.object_map.specs.declared.map.Row.{Row}
use Rattle.object_map.specs.Rows.{row_of}
use Rattle.drive.specs.Opened.{versions_of_row, object_by, versions_below, RowsAscend, ABaseListsRowsInOrder}
use Rattle.drive.proofs.Opening.{objects_from}

-- ---- one row more

found_here : (e : ℕ × Row) (rows : List (ℕ × Row)) → row_of (e ∷ rows) e.0 ≡ Some e.1
found_here e rows = ap (λ (r : Ordering). cond (is_eq r) (Some e.1) (row_of rows e.0)) (sym (nat_cmp_is e.0 e.0 Equal refl))

found_there : (o : ℕ) (e : ℕ × Row) (rows : List (ℕ × Row)) → (o ≡ e.0 → ⊥) → row_of (e ∷ rows) o ≡ row_of rows o
found_there o e rows apart = elim (cases_order o e.0) [
  | inl same ↦ absurd (apart same)
  | inr (inl lt) ↦ ap (λ (r : Ordering). cond (is_eq r) (Some e.1) (row_of rows o)) (sym (nat_cmp_is o e.0 Less lt))
  | inr (inr gt) ↦ ap (λ (r : Ordering). cond (is_eq r) (Some e.1) (row_of rows o)) (sym (nat_cmp_is o e.0 Greater gt))
]

none_before : (low o : ℕ) (rows : List (ℕ × Row)) → RowsAscend low rows → o < low → row_of rows o ≡ None
none_before low o [] ascend lt = refl
none_before low o (e ∷ rows) ascend lt =
    let from : low ≤ e.0 = ascend.0 in
    found_there o e rows (λ (same : o ≡ e.0). absurd (omega arith)) ∙ none_before (e.0 + 1) o rows ascend.1 (omega arith)

-- ---- all of them

-- the same rows from a number on are the same objects
same_objects : (held : Place → Option Stored) (f g : ℕ → Option Row) (first count : ℕ) → ((o : ℕ) → first ≤ o → f o ≡ g o) → objects_from held f first count ≡ objects_from held g first count
same_objects held f g first zero same = refl
same_objects held f g first (suc count) same =
    ap (λ (r : Option Row). cons_option (object_by held first r) (objects_from held f (first + 1) count)) (same first (omega arith))
    ∙ ap (λ (rest : List (ℕ × List (ℕ × Version))). cons_option (object_by held first (g first)) rest) (same_objects held f g (first + 1) count (λ o from. same o (omega arith)))

-- an object with its versions
abbrev listed : (Place → Option Stored) → ℕ × Row → ℕ × List (ℕ × Version)
listed held e = (e.0, versions_of_row held e.0 e.1)

in_order : (held : Place → Option Stored) (rows : List (ℕ × Row)) (first count : ℕ) → RowsAscend first rows → ((o : ℕ) → first + count ≤ o → row_of rows o ≡ None)
    → objects_from held (row_of rows) first count ≡ map (listed held) rows
in_order held [] first zero ascend none = refl
in_order held (e ∷ rows) first zero ascend none =
    let from : first ≤ e.0 = ascend.0 in
    let nowhere : None ≡ Some e.1 = sym (none e.0 (omega arith)) ∙ found_here e rows in
    absurd (none-some e.1 nowhere)
in_order held [] first (suc count) ascend none = in_order held [] (first + 1) count tt (λ o from. refl)
in_order held (e ∷ rows) first (suc count) ascend none =
    let from : first ≤ e.0 = ascend.0 in
    elim (cases_eq first e.0) [
      | inl same ↦
          let here : row_of (e ∷ rows) first ≡ Some e.1 = subst (λ (o : ℕ). row_of (e ∷ rows) o ≡ Some e.1) (sym same) (found_here e rows) in
          let after : RowsAscend (first + 1) rows = subst (λ (o : ℕ). RowsAscend (o + 1) rows) (sym same) ascend.1 in
          let there : (o : ℕ) → first + 1 ≤ o → row_of (e ∷ rows) o ≡ row_of rows o = λ o past. found_there o e rows (λ (is : o ≡ e.0). absurd (omega arith)) in
          ap (λ (r : Option Row). cons_option (object_by held first r) (objects_from held (row_of (e ∷ rows)) (first + 1) count)) here
          ∙ ap (λ (o : ℕ). listed held (o, e.1) ∷ objects_from held (row_of (e ∷ rows)) (first + 1) count) same
          ∙ ap (λ (rest : List (ℕ × List (ℕ × Version))). listed held e ∷ rest)
          (same_objects held (row_of (e ∷ rows)) (row_of rows) (first + 1) count there
          ∙ in_order held rows (first + 1) count after (λ o past. let behind : first + 1 ≤ o = omega arith in sym (there o behind) ∙ none o (omega arith)))
      | inr apart ↦
          let later : first + 1 ≤ e.0 = omega arith in
          let nowhere : row_of (e ∷ rows) first ≡ None = none_before (first + 1) first (e ∷ rows) (later, ascend.1) (omega arith) in
          ap (λ (r : Option Row). cons_option (object_by held first r) (objects_from held (row_of (e ∷ rows)) (first + 1) count)) nowhere
          ∙ in_order held (e ∷ rows) (first + 1) count (later, ascend.1) (λ o past. none o (omega arith))
    ]

lower : (low least : ℕ) (rows : List (ℕ × Row)) → least ≤ low → RowsAscend low rows → RowsAscend least rows
lower low least [] le ascend = tt
lower low least (e ∷ rows) le ascend = let from : low ≤ e.0 = ascend.0 in (omega arith, ascend.1)

-- Where the rows of a store are by ascending objects, a base lists their versions in the same order.
pub base_in_order : ABaseListsRowsInOrder
unfolding versions_below
base_in_order s w low next audit none ascend = in_order s.log.held s.rows 0 next (lower low 0 s.rows (omega arith) ascend) (λ o past. none o (omega arith))
