-- Rows by ascending moments: those that are dropped are the first, and those from a moment on are the last.
use Rattle.std.proofs.Common.{◌≡◌, ℕ, zero, suc, ◌+◌, ◌-◌, ◌<◌, ◌≤◌, Bool, true, false, not, cond, nat_lt, List, [], ◌∷◌, ◌++◌, length, take, drop, get_or, filter, inl, inr, refl, sym, ap, subst, ◌∙◌, arith}
use Rattle.std.specs.Prelude.{nat_le, min}
use Rattle.std.specs.List.{AllByRecursion, AllWithin}
use Rattle.std.specs.List.Sorted.{IsNonDecreasingBy, IsPartitionPoint}
use Rattle.std.proofs.lemmas.Bool.{cases_lt, ltb-true, ltb-false, true≢false}
use Rattle.std.proofs.lemmas.List.{take_all, length-drop}
use Rattle.s4_types.specs.declared.audit_rows.AuditRow.{AuditRow}
use Rattle.s4_model.specs.Audit.{rows_from}
use Rattle.s4_model.proofs.AuditLaws.{from_kept, from_cut, all_kept}
use Rattle.audit_log.specs.Log.{begins_below}
use Rattle.s4_model.specs.Audit.{MomentsAscend}

-- rows that are all later than one
later_than : (m : ℕ) (rows : List AuditRow) → AllByRecursion (λ later. m < later.moment) rows → (k : ℕ) (d : AuditRow) → k < length rows → m < (get_or rows k d).moment
later_than m [] all k d lt = absurd (omega (arith, lt))
later_than m (row ∷ rows) all zero d lt = all.0
later_than m (row ∷ rows) all (suc k) d lt = later_than m rows all.1 k d (omega (arith, lt))

pub rises : (rows : List AuditRow) → MomentsAscend rows → IsNonDecreasingBy (λ row. row.moment) rows
rises [] h i j d le lt = absurd (omega (arith, lt))
rises (row ∷ rows) h zero zero d le lt = omega arith
rises (row ∷ rows) h zero (suc j) d le lt = let later = later_than row.moment rows h.0 j d (omega (arith, lt)) in omega (arith, later)
rises (row ∷ rows) h (suc i) zero d le lt = absurd (omega (arith, le))
rises (row ∷ rows) h (suc i) (suc j) d le lt = rises rows h.1 i j d (omega (arith, le)) (omega (arith, lt))

-- rows that are all of this moment or later
pub all_from : (t : ℕ) (rows : List AuditRow) → AllByRecursion (λ row. t ≤ row.moment) rows → rows_from t rows ≡ rows
all_from t [] all = refl
all_from t (row ∷ rows) all = from_kept t row rows all.0 ∙ ap (λ (rest : List AuditRow). row ∷ rest) (all_from t rows all.1)

later_from : (t m : ℕ) (rows : List AuditRow) → t ≤ m → AllByRecursion (λ later. m < later.moment) rows → AllByRecursion (λ row. t ≤ row.moment) rows
later_from t m [] le all = tt
later_from t m (row ∷ rows) le all = (let later : m < row.moment = all.0 in omega (arith, later, le), later_from t m rows le all.1)

-- where the first one isn't below the moment none is
pub none_below : (t : ℕ) (rows : List AuditRow) → MomentsAscend rows → begins_below t rows ≡ false → rows_from t rows ≡ rows
none_below t [] h e = refl
none_below t (row ∷ rows) h e =
    let late : t ≤ row.moment = ltb-false row.moment t e in
    all_from t (row ∷ rows) (late, later_from t row.moment rows late h.0)

-- the first one goes
pub first_goes : (t : ℕ) (rows : List AuditRow) → begins_below t rows ≡ true → rows_from t (drop 1 rows) ≡ rows_from t rows
first_goes t [] e = absurd (true≢false (sym e))
first_goes t (row ∷ rows) e = sym (from_cut t row rows (ltb-true row.moment t e))

pub rest_ascends : (rows : List AuditRow) → MomentsAscend rows → MomentsAscend (drop 1 rows)
rest_ascends [] h = tt
rest_ascends (row ∷ rows) h = h.1

pub shorter : (t : ℕ) (rows : List AuditRow) → begins_below t rows ≡ true → length (drop 1 rows) < length rows
shorter t [] e = absurd (true≢false (sym e))
shorter t (row ∷ rows) e = omega arith

-- ---- a row more

all_push : (m : ℕ) (rows : List AuditRow) (row : AuditRow) → AllByRecursion (λ later. m < later.moment) rows → m < row.moment → AllByRecursion (λ later. m < later.moment) (rows ++ row ∷ [])
all_push m [] row all lt = (lt, tt)
all_push m (other ∷ rows) row all lt = (all.0, all_push m rows row all.1 lt)

pub ascend_push : (rows : List AuditRow) (row : AuditRow) → MomentsAscend rows → AllByRecursion (λ other. other.moment < row.moment) rows → MomentsAscend (rows ++ row ∷ [])
ascend_push [] row h all = (tt, tt)
ascend_push (other ∷ rows) row h all = (all_push other.moment rows row h.0 all.0, ascend_push rows row h.1 all.1)

-- ---- rows from a moment on

-- the rows behind those that are below a moment are those from it on
pub behind_point : (t : ℕ) (rows : List AuditRow) (i : ℕ) → IsPartitionPoint (λ row. nat_lt row.moment t ≡ true) (λ row. nat_lt row.moment t ≡ false) rows i → drop i rows ≡ rows_from t rows
behind_point t [] zero point = refl
behind_point t [] (suc i) point = refl
behind_point t (row ∷ rows) zero point =
    let late : t ≤ row.moment = ltb-false row.moment t (point.1 0 row (omega arith) (omega arith)) in
    sym (from_kept t row rows late ∙ ap (λ (rest : List AuditRow). row ∷ rest) (sym (behind_point t rows zero ((λ k d low high. absurd (omega (arith, low, high))), λ k d low high. point.1 (suc k) d (omega arith) (omega (arith, high))))))
behind_point t (row ∷ rows) (suc i) point =
    behind_point t rows i (λ k d low high. point.0 (suc k) d (omega arith) (omega (arith, high)), λ k d low high. point.1 (suc k) d (omega (arith, low)) (omega (arith, high)))
    ∙ sym (from_cut t row rows (ltb-true row.moment t (point.0 0 row (omega arith) (omega arith))))

-- so all that are copied from there on are
pub rows_behind : (t : ℕ) (rows copied : List AuditRow) (start : ℕ) → IsPartitionPoint (λ row. nat_lt row.moment t ≡ true) (λ row. nat_lt row.moment t ≡ false) rows start
    → copied ≡ take (length rows - start) (drop start rows) → copied ≡ rows_from t rows
rows_behind t rows copied start point is =
    is ∙ take_all (length rows - start) (drop start rows) (omega (arith, length-drop start rows)) ∙ behind_point t rows start point

-- they ascend as all do
pub from_ascends : (t : ℕ) (rows : List AuditRow) → MomentsAscend rows → MomentsAscend (rows_from t rows)
from_ascends t [] h = tt
from_ascends t (row ∷ rows) h =
    elim (nat_le t row.moment) as (λ b. MomentsAscend (cond b (row ∷ rows_from t rows) (rows_from t rows))) [
      | true ↦ (all_kept (λ later. row.moment < later.moment) t rows h.0, from_ascends t rows h.1)
      | false ↦ from_ascends t rows h.1
    ]

-- as many as there are, where there are no more
pub taken : (rows : List AuditRow) (n most : ℕ) → n ≡ min (length rows) most → take n rows ≡ take most rows
taken rows n most is =
    elim (cases_lt most (length rows)) as (λ _. take n rows ≡ take most rows) [
      | inl fewer ↦ let same : n ≡ most = omega (arith, is, fewer) in ap (λ (k : ℕ). take k rows) same
      | inr all ↦ take_all n rows (omega (arith, is, all)) ∙ sym (take_all most rows (omega (arith, all)))
    ]

-- the rows from a place on, as many as there are of those that are asked for
pub rows_answered : (t : ℕ) (rows copied : List AuditRow) (start end most : ℕ) → IsPartitionPoint (λ row. nat_lt row.moment t ≡ true) (λ row. nat_lt row.moment t ≡ false) rows start
    → end - start ≡ min (length rows - start) most → copied ≡ take (end - start) (drop start rows) → copied ≡ take most (rows_from t rows)
rows_answered t rows copied start end most point count is =
    let behind : drop start rows ≡ rows_from t rows = behind_point t rows start point in
    let long : length (rows_from t rows) ≡ length rows - start = ap (length {A = AuditRow}) (sym behind) ∙ length-drop start rows in
    is ∙ ap (λ (all : List AuditRow). take (end - start) all) behind ∙ taken (rows_from t rows) (end - start) most (omega (arith, count, long))
