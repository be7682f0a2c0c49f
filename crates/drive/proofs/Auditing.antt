-- The rows that a drive keeps of its audit go on with each record of its history.
use Rattle.std.proofs.Common.{◌≡◌, ℕ, ◌<◌, ◌≤◌, max, true, false, cond, List, [], ◌∷◌, ◌++◌, append-nil, length, take, Some, None, inl, inr, refl, sym, ap, subst, ◌∙◌, arith}
use Rattle.std.specs.Prelude.{nat_lt}
use Rattle.std.specs.List.{AllByRecursion}
use Rattle.std.proofs.lemmas.Bool.{cases_lt, cond-true, cond-false, lt-ltb, le-ltb}
use Rattle.std.proofs.lemmas.List.{length-take}
use Rattle.s4_types.specs.History.{Base}
use Rattle.s4_types.specs.Sizes.{ReplyFits}
use Rattle.s4_types.specs.declared.limits.TheConstants.{AUDIT_ROWS}
use Rattle.s4_types.specs.declared.refusals.Refusal.TheVariants.{NotAdmin, TooLarge}
use Rattle.s4_types.specs.declared.replies.Reply.TheVariants.{AuditRows}
use Rattle.s4_types.specs.declared.requests.Role.{Role}
use Rattle.s4_types.specs.declared.requests.Request.TheVariants.{Query}
use Rattle.s4_types.specs.declared.requests.Question.TheVariants.{Audit}
use Rattle.s4_types.specs.declared.audit_rows.AuditRow.{AuditRow}
use Rattle.s4_types.specs.declared.changes.Accepted.{Accepted}
use Rattle.s4_types.specs.declared.changes.Change.{Change}
use Rattle.s4_model.specs.Audit.{row_by, audit_row, all_rows, audit_of, rows_from, rows_asked, KeepsAudit, IsAuditRow, IsRowBetween, AreAuditRows, MomentsAscend}
use Rattle.s4_model.proofs.AuditLaws.{from_cut, from_kept, all_kept}
use Rattle.s4_model.specs.Laws.{KeptAuditsGoOn}
use Rattle.s4_model.specs.Refusals.{first_refusal, is_client}
use Rattle.s4_model.specs.Sound.{IsSound}
use Rattle.s4_model.specs.State.{State, state_of, seen, took}
use Rattle.s4_model.specs.Step.{stamp, accepted_record}
use Rattle.segment_word.specs.AcceptViews.{Ledger, begun, with_change, with_moment}
use Rattle.drive.specs.Later.{later_refusal}
use Rattle.drive.specs.Answering.{IsAnswered}
use Rattle.segment_table.specs.Table.{Table}
use Rattle.segment_table.specs.Room.{log_of}
use Rattle.version_store.specs.Store.{StoreOf, fields_of}
use Rattle.window.specs.Timeline.{Timeline}
use Rattle.drive.specs.Fields.{DriveFields, state_in}
use Rattle.drive.specs.Keeping.{IsKeptDrive}
use Rattle.drive.proofs.Parts.{drive_as}
use Rattle.drive.proofs.Unversioned.{StateByChanges, StateByMoments}

pub audit_after_moment : KeptAuditsGoOn → StateByMoments → (l later : Ledger) (kept : List AuditRow) (now : ℕ) → KeepsAudit (state_of l.history) kept → later ≡ with_moment l now → KeepsAudit (state_of later.history) kept
audit_after_moment goes by l later kept now is same =
    let goes_on : state_of later.history ≡ seen (state_of l.history) now = ap (λ (x : Ledger). state_of x.history) same ∙ by l.history now in
    subst (λ (x : State). KeepsAudit x kept) (sym goes_on) ((goes (state_of l.history) kept is).sees now)

pub audit_after_change : KeptAuditsGoOn → StateByChanges → (l later : Ledger) (seat : ℕ) (kept after : List AuditRow) (now m : ℕ) (change : Change) (row : AuditRow)
    → KeepsAudit (state_of l.history) kept → IsSound (state_of l.history) → m ≡ stamp (state_of l.history) now → later ≡ with_change l seat m change
    → row ≡ row_by m change → after ≡ kept ++ row ∷ [] → KeepsAudit (state_of later.history) after
audit_after_change goes by l later seat kept after now m change row is sound at same made added =
    let s : State = state_of l.history in
    let a : Accepted = accepted_record s change now in
    let goes_on : state_of later.history ≡ took s a =
    ap (λ (x : Ledger). state_of x.history) (same ∙ ap (λ (t : ℕ). with_change l seat t change) at) ∙ by l.history a in
    let whole : after ≡ kept ++ audit_row a ∷ [] = added ∙ ap (λ (r : AuditRow). kept ++ r ∷ []) (made ∙ ap (λ (t : ℕ). row_by t change) at) in
    let low : s.floor ≤ s.clock = sound.floor_reached in
    subst (λ (x : State). KeepsAudit x after) (sym goes_on)
    (subst (KeepsAudit (took s a)) (sym whole) ((goes s kept is).takes a low (omega arith)))

all_before : (c m : ℕ) (kept : List AuditRow) → c < m → AllByRecursion (λ row. row.moment ≤ c) kept → AllByRecursion (λ row. row.moment < m) kept
all_before c m [] lt all = tt
all_before c m (row ∷ kept) lt all = (let early : row.moment ≤ c = all.0 in omega (arith, early, lt), all_before c m kept lt all.1)

-- the row of a change at a later moment is later than all that are kept
pub row_is_later : (s : State) (kept : List AuditRow) (now m : ℕ) (change : Change) (row : AuditRow) → KeepsAudit s kept → m ≡ stamp s now → row ≡ row_by m change → AllByRecursion (λ other. other.moment < row.moment) kept
row_is_later s kept now m change row is at made =
    let same : row.moment ≡ m = ap (λ (r : AuditRow). r.moment) made in
    all_before s.clock row.moment kept (omega (arith, same, at)) is.past

-- a drive that begins with the rows of its base keeps these
pub base_kept : (l : Ledger) (base named : Base) (rows : List AuditRow) → l ≡ begun named → base ≡ named → base.audit ≡ rows → AllByRecursion (λ row. row.moment ≤ base.clock) rows → KeepsAudit (state_of l.history) rows
base_kept l base named rows is same kept past =
    let s : State = state_of (begun base).history in
    let whole : rows_from s.floor rows ≡ audit_of s = ap (rows_from s.floor) (sym (append-nil base.audit ∙ kept)) in
    subst (λ (x : Ledger). KeepsAudit (state_of x.history) rows) (ap begun same ∙ sym is) (record { whole = whole; past = past })

-- ---- the answer to an Audit

pub audit_answered : KeptAuditsGoOn → (s : State) (kept answered : List AuditRow) (from lowest most : ℕ) → KeepsAudit s kept → lowest ≡ max from s.floor → answered ≡ take most (rows_from lowest kept)
    → IsAnswered (later_refusal s (Query (Audit from most))) s (Query (Audit from most)) (AuditRows answered)
audit_answered goes s kept answered from lowest most is low found =
    let asked : answered ≡ rows_asked s from most = found ∙ ap (λ (t : ℕ). take most (rows_from t kept)) low ∙ sym ((goes s kept is).asked from most) in
    (refl, ap (λ (rows : List AuditRow). Some (AuditRows rows)) (sym asked))

pub audit_fits : (rows : List AuditRow) (most : ℕ) (answered : List AuditRow) → answered ≡ take most rows → most ≤ AUDIT_ROWS → ReplyFits (AuditRows answered)
audit_fits rows most answered is few =
    let same : length answered ≡ length (take most rows) = ap (length {A = AuditRow}) is in
    let fits : length answered ≤ AUDIT_ROWS = omega (arith, few, same, length-take most rows) in
    fits

-- ---- its checks

audit_first : (s : State) (role : Role) (from most : ℕ) → first_refusal s role (Query (Audit from most)) ≡ cond (is_client role) (Some NotAdmin) (cond (nat_lt AUDIT_ROWS most) (Some TooLarge) None)
audit_first s role from most = refl

pub audit_of_client : (s : State) (role : Role) (from most : ℕ) → is_client role ≡ true → first_refusal s role (Query (Audit from most)) ≡ Some NotAdmin
audit_of_client s role from most client = audit_first s role from most ∙ cond-true (is_client role) _ _ client

pub audit_too_large : (s : State) (role : Role) (from most : ℕ) → is_client role ≡ false → AUDIT_ROWS < most → first_refusal s role (Query (Audit from most)) ≡ Some TooLarge
audit_too_large s role from most admin many = audit_first s role from most ∙ cond-false (is_client role) _ _ admin ∙ cond-true (nat_lt AUDIT_ROWS most) _ _ (lt-ltb AUDIT_ROWS most many)

pub audit_let_pass : (s : State) (role : Role) (from most : ℕ) → is_client role ≡ false → most ≤ AUDIT_ROWS
    → first_refusal s role (Query (Audit from most)) ≡ later_refusal s (Query (Audit from most))
audit_let_pass s role from most admin few = audit_first s role from most ∙ cond-false (is_client role) _ _ admin ∙ cond-false (nat_lt AUDIT_ROWS most) _ _ (le-ltb AUDIT_ROWS most few)

-- ---- what is kept, and what is cut

-- what holds of the rows in a drive's parts holds of those that contracts see
pub audit_of_parts : (d : DriveFields) (base : Base) (l : Ledger) (store : StoreOf Table) (audit : List AuditRow) (w : Timeline) (next : ℕ) → drive_as l store audit ≡ d
    → (l.history.base ≡ base) × IsKeptDrive (state_of l.history) (fields_of log_of store) w next × KeepsAudit (state_of l.history) audit → KeepsAudit (state_in d) d.audit
audit_of_parts d base l store audit w next is kept = subst (λ (x : DriveFields). KeepsAudit (state_in x) x.audit) is kept.2

pub cut_rows : (s : State) (kept after : List AuditRow) (floor : ℕ) → KeepsAudit s kept → floor ≡ s.floor → after ≡ rows_from floor kept → after ≡ audit_of s
cut_rows s kept after floor is same cut = cut ∙ ap (λ (t : ℕ). rows_from t kept) same ∙ is.whole

-- ---- the rows that are saved

all_late : (t : ℕ) (rows : List AuditRow) → AllByRecursion (λ row. t ≤ row.moment) (rows_from t rows)
all_late t [] = tt
all_late t (row ∷ rows) =
    elim (cases_lt row.moment t) as (λ _. AllByRecursion (λ r. t ≤ r.moment) (rows_from t (row ∷ rows))) [
      | inl early ↦ subst (AllByRecursion (λ r. t ≤ r.moment)) (sym (from_cut t row rows early)) (all_late t rows)
      | inr late ↦ subst (AllByRecursion (λ r. t ≤ r.moment)) (sym (from_kept t row rows late)) (late, all_late t rows)
    ]

all_between : (floor clock next : ℕ) (rows : List AuditRow) → AllByRecursion (λ row. floor ≤ row.moment) rows → AllByRecursion (λ row. row.moment ≤ clock) rows → AllByRecursion (IsAuditRow next) rows
    → AllByRecursion (IsRowBetween floor clock next) rows
all_between floor clock next [] late past are = tt
all_between floor clock next (row ∷ rows) late past are = ((late.0, past.0, are.0), all_between floor clock next rows late.1 past.1 are.1)

pub are_audit_rows : KeptAuditsGoOn → (s : State) (kept rows : List AuditRow) → KeepsAudit s kept → IsSound s → rows ≡ audit_of s → MomentsAscend rows → AreAuditRows s.floor s.clock s.next rows
are_audit_rows goes s kept rows keeps sound is ascend = record {
  each = subst (AllByRecursion (IsRowBetween s.floor s.clock s.next)) (sym is)
      (all_between s.floor s.clock s.next (audit_of s) (all_late s.floor (all_rows s)) (goes s kept keeps).cut.past (all_kept (IsAuditRow s.next) s.floor (all_rows s) sound.audited));
  ascend = ascend;
}
