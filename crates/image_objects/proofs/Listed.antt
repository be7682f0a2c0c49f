-- Rows of an image that ascend: an object has one of them, and of two the one of the greater object was made later.
use Rattle.std.proofs.Common.{◌≡◌, inl, inr, ℕ, ◌<◌, ◌≤◌, List, [], ◌∷◌, Option, sym, ap, ◌∙◌, subst, arith}
use Rattle.std.specs.List.{Contains}
use Rattle.std.proofs.lemmas.List.Elements.{All-contains, All-from_recursion}
use Rattle.s4_types.specs.Pointer.{Place}
use Rattle.lemmas.proofs.Contains.{contains_none, contains_cases}
use Rattle.block_log.specs.Log.{Stored}
use Rattle.version_store.specs.Across.{ShareNoMoment}
use Rattle.image_objects.specs.declared.rows.ImageRow.{ImageRow}
use Rattle.image_objects.specs.Chains.{entries_used}
use Rattle.image_objects.specs.Rows.{RowsAscend, RowsShareNoMoment}

-- ---- rows that ascend

-- each row is of an object above the first number, and was made after the second
pub above : (clock low made : ℕ) (rows : List ImageRow) (row : ImageRow) → RowsAscend clock low made rows → Contains rows row → (low < row.object) × (made < row.created)
above clock low made [] row ascend there = absurd (contains_none row there)
above clock low made (x ∷ rows) row ascend there = elim (contains_cases x rows row there) [
  | inl is ↦ subst (λ (r : ImageRow). (low < r.object) × (made < r.created)) is (ascend.0, ascend.1)
  | inr behind ↦ (let (object, created) = above clock x.object x.created rows row ascend.3 behind in (omega (arith, ascend.0, object), omega (arith, ascend.1, created)))
]

-- the rows of one object are one row
pub one_row : (clock low made : ℕ) (rows : List ImageRow) (a b : ImageRow) → RowsAscend clock low made rows → Contains rows a → Contains rows b → a.object ≡ b.object → a ≡ b
one_row clock low made [] a b ascend first second same = absurd (contains_none a first)
one_row clock low made (x ∷ rows) a b ascend first second same = elim (contains_cases x rows a first) [
  | inl is ↦ elim (contains_cases x rows b second) [
    | inl too ↦ sym is ∙ too
    | inr behind ↦
        let object : x.object ≡ a.object = ap (λ (r : ImageRow). r.object) is in
        let later = above clock x.object x.created rows b ascend.3 behind in
        absurd (omega (arith, object, later.0, same))
  ]
  | inr behind ↦ elim (contains_cases x rows b second) [
    | inl is ↦
        let object : x.object ≡ b.object = ap (λ (r : ImageRow). r.object) is in
        let later = above clock x.object x.created rows a ascend.3 behind in
        absurd (omega (arith, object, later.0, same))
    | inr too ↦ one_row clock x.object x.created rows a b ascend.3 behind too same
  ]
]

-- each was made by the clock
pub made_by : (clock low made : ℕ) (rows : List ImageRow) (row : ImageRow) → RowsAscend clock low made rows → Contains rows row → row.created ≤ clock
made_by clock low made [] row ascend there = absurd (contains_none row there)
made_by clock low made (x ∷ rows) row ascend there = elim (contains_cases x rows row there) [
  | inl is ↦ subst (λ (r : ImageRow). r.created ≤ clock) is ascend.2
  | inr behind ↦ made_by clock x.object x.created rows row ascend.3 behind
]

-- of two rows, that of the greater object is after the other
pub later_row : (clock low made : ℕ) (x : ImageRow) (rows : List ImageRow) (a b : ImageRow) → RowsAscend clock low made (x ∷ rows) → Contains (x ∷ rows) a → Contains (x ∷ rows) b → a.object < b.object → Contains rows b
later_row clock low made x rows a b ascend first second less = elim (contains_cases x rows b second) [
  | inl is ↦
      let object : x.object ≡ b.object = ap (λ (r : ImageRow). r.object) is in
      elim (contains_cases x rows a first) [
        | inl too ↦ (let same : x.object ≡ a.object = ap (λ (r : ImageRow). r.object) too in absurd (omega (arith, object, same, less)))
        | inr behind ↦ (let later = above clock x.object x.created rows a ascend.3 behind in absurd (omega (arith, object, later.0, less)))
      ]
  | inr behind ↦ behind
]

-- and was made later
pub made_later : (clock low made : ℕ) (rows : List ImageRow) (a b : ImageRow) → RowsAscend clock low made rows → Contains rows a → Contains rows b → a.object < b.object → a.created < b.created
made_later clock low made [] a b ascend first second less = absurd (contains_none a first)
made_later clock low made (x ∷ rows) a b ascend first second less =
    let behind : Contains rows b = later_row clock low made x rows a b ascend first second less in
    elim (contains_cases x rows a first) [
      | inl is ↦ subst (λ (r : ImageRow). r.created < b.created) is (above clock x.object x.created rows b ascend.3 behind).1
      | inr too ↦ made_later clock x.object x.created rows a b ascend.3 too behind less
    ]

-- and their chains share no moment
pub apart_rows : (used : Place → Option Stored) (clock low made : ℕ) (rows : List ImageRow) (a b : ImageRow) → RowsAscend clock low made rows → RowsShareNoMoment used rows → Contains rows a → Contains rows b → a.object < b.object
    → ShareNoMoment (entries_used used a) (entries_used used b)
apart_rows used clock low made [] a b ascend apart first second less = absurd (contains_none a first)
apart_rows used clock low made (x ∷ rows) a b ascend apart first second less =
    let behind : Contains rows b = later_row clock low made x rows a b ascend first second less in
    elim (contains_cases x rows a first) [
      | inl is ↦
          let P : ImageRow → Type 0 = λ other. ShareNoMoment (entries_used used x) (entries_used used other) in
          subst (λ (r : ImageRow). ShareNoMoment (entries_used used r) (entries_used used b)) is (All-contains P rows b (All-from_recursion P rows apart.0) behind)
      | inr too ↦ apart_rows used clock x.object x.created rows a b ascend.3 apart.1 too behind less
    ]
