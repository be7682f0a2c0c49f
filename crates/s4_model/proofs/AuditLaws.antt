-- The rows of the audit that are left at a later floor.
use Rattle.std.proofs.Common.{◌≡◌, ℕ, ◌<◌, ◌≤◌, ◌-◌, max, Bool, true, false, cond, List, [], ◌∷◌, ◌++◌, map, filter, append_assoc, inl, inr, refl, sym, ap, subst, ◌∙◌, take, arith}
use Rattle.std.specs.Prelude.{nat_le, nat_lt, if◌then◌else◌, None, Some, Option}
use Rattle.std.specs.List.{AllByRecursion, filter_map, cons_option}
use Rattle.std.proofs.lemmas.Bool.{cases_lt, le-leb, lt-leb, le-ltb, lt-ltb, cond-true, cond-false}
use Rattle.std.proofs.lemmas.List.{map-append}
use Rattle.std.proofs.lemmas.List.Elements.{filter-append}
use Rattle.s4_types.specs.declared.audit_rows.AuditRow.{AuditRow}
use Rattle.s4_types.specs.declared.changes.Accepted.{Accepted}
use Rattle.s4_model.specs.Numbers.{window_by}
use Rattle.s4_model.specs.State.{State, seen, took}
use Rattle.s4_model.specs.Audit.{audit_row, is_from, rows_from, row_from, audit_of, rows_asked, KeepsAudit}
use Rattle.s4_model.specs.Laws.{AKeptAuditGoesOn}

-- a row that passes, or doesn't
pub from_kept : (t : ℕ) (row : AuditRow) (rows : List AuditRow) → t ≤ row.moment → rows_from t (row ∷ rows) ≡ row ∷ rows_from t rows
from_kept t row rows le = cond-true (nat_le t row.moment) (row ∷ rows_from t rows) (rows_from t rows) (le-leb t row.moment le)

pub from_cut : (t : ℕ) (row : AuditRow) (rows : List AuditRow) → row.moment < t → rows_from t (row ∷ rows) ≡ rows_from t rows
from_cut t row rows lt = cond-false (nat_le t row.moment) (row ∷ rows_from t rows) (rows_from t rows) (lt-leb t row.moment lt)

-- what is left at two moments is left at the later one
pub from_twice : (t u : ℕ) (rows : List AuditRow) → rows_from t (rows_from u rows) ≡ rows_from (max t u) rows
from_twice t u [] = refl
from_twice t u (row ∷ rows) =
    elim (cases_lt row.moment u) as (λ _. rows_from t (rows_from u (row ∷ rows)) ≡ rows_from (max t u) (row ∷ rows)) [
      | inl below ↦ ap (rows_from t) (from_cut u row rows below) ∙ from_twice t u rows ∙ sym (from_cut (max t u) row rows (omega arith))
      | inr above ↦ ap (rows_from t) (from_kept u row rows above) ∙ elim (cases_lt row.moment t) as (λ _. rows_from t (row ∷ rows_from u rows) ≡ rows_from (max t u) (row ∷ rows)) [
        | inl early ↦ from_cut t row (rows_from u rows) early ∙ from_twice t u rows ∙ sym (from_cut (max t u) row rows (omega arith))
        | inr late ↦ from_kept t row (rows_from u rows) late ∙ ap (λ (all : List AuditRow). row ∷ all) (from_twice t u rows) ∙ sym (from_kept (max t u) row rows (omega arith))
      ]
    ]

-- so at a floor that isn't lower
from_later : (t u : ℕ) (rows : List AuditRow) → u ≤ t → rows_from t (rows_from u rows) ≡ rows_from t rows
from_later t u rows le = let same : max t u ≡ t = omega arith in from_twice t u rows ∙ ap (λ (m : ℕ). rows_from m rows) same

pub moment_cuts : (s : State) (now : ℕ) → audit_of (seen s now) ≡ rows_from (seen s now).floor (audit_of s)
moment_cuts s now = sym (from_later (seen s now).floor s.floor (s.audit ++ map audit_row s.changes) (omega arith))

-- rows that are all there already, and one more
with_row : (t : ℕ) (rows : List AuditRow) (row : AuditRow) → t ≤ row.moment → rows_from t (rows ++ row ∷ []) ≡ rows_from t rows ++ row ∷ []
with_row t rows row le = filter-append (is_from t) rows (row ∷ []) ∙ ap (λ (end : List AuditRow). rows_from t rows ++ end) (from_kept t row [] le)

pub change_adds : (s : State) (a : Accepted) → s.floor ≤ a.moment → audit_of (took s a) ≡ rows_from (took s a).floor (audit_of s) ++ audit_row a ∷ []
change_adds s a le =
    let floor : ℕ = (took s a).floor in
    let below : floor ≤ a.moment = omega arith in
    ap (λ (rows : List AuditRow). rows_from floor (s.audit ++ rows)) (map-append audit_row s.changes (a ∷ []))
    ∙ ap (rows_from floor) (sym (append_assoc s.audit (map audit_row s.changes) (audit_row a ∷ [])))
    ∙ with_row floor (s.audit ++ map audit_row s.changes) (audit_row a) below
    ∙ ap (λ (rows : List AuditRow). rows ++ audit_row a ∷ []) (sym (from_later floor s.floor (s.audit ++ map audit_row s.changes) (omega arith)))

-- ---- what is kept of it

kept_later : (s : State) (kept : List AuditRow) (floor : ℕ) → s.floor ≤ floor → KeepsAudit s kept → rows_from floor kept ≡ rows_from floor (audit_of s)
kept_later s kept floor le is = sym (from_later floor s.floor kept le) ∙ ap (rows_from floor) is.whole

past_later : (c d : ℕ) (kept : List AuditRow) → c ≤ d → AllByRecursion (λ row. row.moment ≤ c) kept → AllByRecursion (λ row. row.moment ≤ d) kept
past_later c d [] le h = tt
past_later c d (row ∷ kept) le h = (let early : row.moment ≤ c = h.0 in omega arith, past_later c d kept le h.1)

past_push : (c : ℕ) (kept : List AuditRow) (row : AuditRow) → AllByRecursion (λ r. r.moment ≤ c) kept → row.moment ≤ c → AllByRecursion (λ r. r.moment ≤ c) (kept ++ row ∷ [])
past_push c [] row h le = (le, tt)
past_push c (r ∷ kept) row h le = (h.0, past_push c kept row h.1 le)

-- what holds of all rows holds of those from a moment on
pub all_kept : (P : AuditRow → Type 0) (t : ℕ) (rows : List AuditRow) → AllByRecursion P rows → AllByRecursion P (rows_from t rows)
all_kept P t [] h = tt
all_kept P t (row ∷ rows) h =
    elim (nat_le t row.moment) as (λ b. AllByRecursion P (cond b (row ∷ rows_from t rows) (rows_from t rows))) [
      | true ↦ (h.0, all_kept P t rows h.1)
      | false ↦ all_kept P t rows h.1
    ]

kept_seen : (s : State) (kept : List AuditRow) (now : ℕ) → KeepsAudit s kept → KeepsAudit (seen s now) kept
kept_seen s kept now is = record {
  whole = kept_later s kept (seen s now).floor (omega arith) is ∙ sym (moment_cuts s now);
  past = past_later s.clock (max s.clock now) kept (omega arith) is.past;
}

kept_took : (s : State) (kept : List AuditRow) (a : Accepted) → KeepsAudit s kept → s.floor ≤ s.clock → s.clock < a.moment → KeepsAudit (took s a) (kept ++ audit_row a ∷ [])
kept_took s kept a is low lt = record {
  whole = with_row (took s a).floor kept (audit_row a) (omega arith)
      ∙ ap (λ (rows : List AuditRow). rows ++ audit_row a ∷ []) (kept_later s kept (took s a).floor (omega arith) is)
      ∙ sym (change_adds s a (omega arith));
  past = past_push a.moment kept (audit_row a) (past_later s.clock a.moment kept (omega arith) is.past) (omega arith);
}

kept_cut : (s : State) (kept : List AuditRow) → KeepsAudit s kept → KeepsAudit s (audit_of s)
kept_cut s kept is = record {
  whole = from_later s.floor s.floor (s.audit ++ map audit_row s.changes) (omega arith);
  past = subst (AllByRecursion (λ row. row.moment ≤ s.clock)) is.whole (all_kept (λ row. row.moment ≤ s.clock) s.floor kept is.past);
}

kept_asked : (s : State) (kept : List AuditRow) (from most : ℕ) → KeepsAudit s kept → rows_asked s from most ≡ take most (rows_from (max from s.floor) kept)
kept_asked s kept from most is = ap (λ (rows : List AuditRow). take most (rows_from from rows)) (sym is.whole) ∙ ap (take most) (from_twice from s.floor kept)

pub kept_goes_on : (s : State) (kept : List AuditRow) → KeepsAudit s kept → AKeptAuditGoesOn s kept
kept_goes_on s kept is = record {
  sees = λ now. kept_seen s kept now is;
  takes = λ a low lt. kept_took s kept a is low lt;
  cut = kept_cut s kept is;
  asked = λ from most. kept_asked s kept from most is;
}

-- ---- the plain drive's

pub rows_of_changes : (t : ℕ) (changes : List Accepted) → filter_map (row_from t) changes ≡ rows_from t (map audit_row changes)
rows_of_changes t [] = refl
rows_of_changes t (a ∷ changes) =
    elim (cases_lt a.moment t) as (λ _. filter_map (row_from t) (a ∷ changes) ≡ rows_from t (map audit_row (a ∷ changes))) [
      | inl early ↦ ap (λ (b : Bool). cons_option (cond b None (Some (audit_row a))) (filter_map (row_from t) changes)) (lt-ltb a.moment t early) ∙ rows_of_changes t changes ∙ sym (from_cut t (audit_row a) (map audit_row changes) early)
      | inr late ↦ ap (λ (b : Bool). cons_option (cond b None (Some (audit_row a))) (filter_map (row_from t) changes)) (le-ltb a.moment t late) ∙ ap (λ (rows : List AuditRow). audit_row a ∷ rows) (rows_of_changes t changes) ∙ sym (from_kept t (audit_row a) (map audit_row changes) late)
    ]
