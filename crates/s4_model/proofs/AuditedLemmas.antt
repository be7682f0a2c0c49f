-- Each accepted change has a row that accepted changes can have.
use Rattle.std.proofs.Common.{◌≡◌, ℕ, zero, suc, ◌<◌, ◌≤◌, ◌==◌, true, false, List, [], ◌∷◌, ◌++◌, map, None, Some, refl, sym, ap, subst, ◌∙◌, append_assoc, true≢false, arith}
use Rattle.std.specs.List.{AllByRecursion}
use Rattle.std.proofs.lemmas.Bool.{eq-eqb}
use Rattle.std.proofs.lemmas.List.{map-append}
use Rattle.s4_types.specs.declared.audit_rows.AuditKind.{AuditKind}
use Rattle.s4_types.specs.declared.audit_rows.AuditKind.TheVariants as kind
use Rattle.s4_types.specs.declared.audit_rows.AuditRow.{AuditRow}
use Rattle.s4_types.specs.declared.changes.Accepted.{Accepted}
use Rattle.s4_types.specs.declared.changes.Change.{Change}
use Rattle.s4_types.specs.declared.changes.Change.TheVariants as change
use Rattle.s4_types.specs.declared.requests.Role.{Role}
use Rattle.s4_types.specs.declared.requests.Request.{Request}
use Rattle.s4_types.specs.declared.versions.Version.TheVariants.{Absent}
use Rattle.s4_model.specs.Audit.{audit_row, row_by, all_rows, IsGivenRow, IsRowOf, IsAuditRow}
use Rattle.s4_model.specs.Effect.{is_change_of}
use Rattle.s4_model.specs.Limits.{Fits}
use Rattle.s4_model.specs.Numbers.{next_by}
use Rattle.s4_model.specs.Refusals.{first_refusal}
use Rattle.s4_model.specs.State.{State, took}
use Rattle.s4_model.specs.Step.{change_of}
use Rattle.s4_model.specs.VersionAt.{version_of}
use Rattle.s4_model.proofs.GrantedLemmas.{IsOrdered, granted_fits, granted_is_born, granted_is_of_somebody, granted_span_is_ordered}

-- ---- rows that were there

grow_given : (next later : ℕ) (row : AuditRow) → next ≤ later → IsGivenRow next row → IsGivenRow later row
grow_given next later row le h = let below : row.object < next = h.1 in (h.0, omega (arith, below, le))

grow_row : (k : AuditKind) (next later : ℕ) (row : AuditRow) → next ≤ later → IsRowOf k next row → IsRowOf k later row
grow_row kind.Create next later row le h = (grow_given next later row le h.0, h.1, h.2)
grow_row kind.Delete next later row le h = (grow_given next later row le h.0, h.1, h.2)
grow_row kind.Write next later row le h = (grow_given next later row le h.0, h.1)
grow_row kind.Truncate next later row le h = (grow_given next later row le h.0, h.1, h.2)
grow_row kind.SetAttr next later row le h = (grow_given next later row le h.0, h.1, h.2)
grow_row kind.SetWindow next later row le h = h
grow_row kind.Flush next later row le h = h
grow_row kind.FlushO next later row le h = (grow_given next later row le h.0, h.1, h.2)

grow_rows : (next later : ℕ) (rows : List AuditRow) → next ≤ later → AllByRecursion (IsAuditRow next) rows → AllByRecursion (IsAuditRow later) rows
grow_rows next later [] le h = tt
grow_rows next later (row ∷ rows) le h = ((h.0.0, grow_row row.kind next later row le h.0.1), grow_rows next later rows le h.1)

-- ---- the row of a change

above_zero : (o : ℕ) → (o == 0) ≡ false → 1 ≤ o
above_zero zero e = absurd (true≢false e)
above_zero (suc o) e = omega arith

-- the object of a change is one whose number is given by then
given_by : (o next : ℕ) (c : Change) → ((x : ℕ) → is_change_of x c ≡ true → x < next_by c next) → is_change_of 0 c ≡ false → is_change_of o c ≡ true → (o == 0) ≡ is_change_of 0 c → (1 ≤ o) × (o < next_by c next)
given_by o next c born somebody is same = (above_zero o (same ∙ somebody), born o is)

row_of_change : (s : State) (m : ℕ) (c : Change) → s.clock < m → Fits c → ((x : ℕ) → is_change_of x c ≡ true → x < next_by c s.next) → is_change_of 0 c ≡ false → IsOrdered s c → IsAuditRow (next_by c s.next) (row_by m c)
row_of_change s m (change.Create object attribute) lt fits born somebody ordered = (omega (arith, lt), (given_by object s.next (change.Create object attribute) born somebody (eq-eqb object object refl) refl, fits, refl))
row_of_change s m (change.Delete object) lt fits born somebody ordered = (omega (arith, lt), (given_by object s.next (change.Delete object) born somebody (eq-eqb object object refl) refl, refl, refl))
row_of_change s m (change.Write object offset bytes) lt fits born somebody ordered = (omega (arith, lt), (given_by object s.next (change.Write object offset bytes) born somebody (eq-eqb object object refl) refl, fits))
row_of_change s m (change.Truncate object size) lt fits born somebody ordered = (omega (arith, lt), (given_by object s.next (change.Truncate object size) born somebody (eq-eqb object object refl) refl, fits, refl))
row_of_change s m (change.SetAttr object attribute) lt fits born somebody ordered = (omega (arith, lt), (given_by object s.next (change.SetAttr object attribute) born somebody (eq-eqb object object refl) refl, fits, refl))
row_of_change s m (change.SetWindow window) lt fits born somebody ordered = (omega (arith, lt), (refl, refl))
row_of_change s m (change.Flush first last) lt fits born somebody ordered = (omega (arith, lt), (refl, ordered.0, omega (arith, lt, ordered.1)))
row_of_change s m (change.FlushO object first last) lt fits born somebody ordered = (omega (arith, lt), ((ordered.2, ordered.3), ordered.0, omega (arith, lt, ordered.1)))

rows_push : (next : ℕ) (rows : List AuditRow) (row : AuditRow) → AllByRecursion (IsAuditRow next) rows → IsAuditRow next row → AllByRecursion (IsAuditRow next) (rows ++ row ∷ [])
rows_push next [] row all one = (one, tt)
rows_push next (other ∷ rows) row all one = (all.0, rows_push next rows row all.1 one)

-- so the rows after a change are such rows
pub rows_took : (s : State) (role : Role) (request : Request) (a : Accepted) → AllByRecursion (IsAuditRow s.next) (all_rows s) → ((x u : ℕ) → s.next ≤ x → version_of s x u ≡ Absent) → 1 ≤ s.next → ((t : ℕ) → version_of s 0 t ≡ Absent)
    → s.clock < a.moment → s.next ≤ next_by a.change s.next → first_refusal s role request ≡ None → change_of s request ≡ Some a.change → AllByRecursion (IsAuditRow (took s a).next) (all_rows (took s a))
rows_took s role request a all unborn numbered nobody lt grows granted asks =
    let row : IsAuditRow (next_by a.change s.next) (row_by a.moment a.change) = row_of_change s a.moment a.change lt (granted_fits s role request a.change granted asks)
    (λ x. granted_is_born s role request a.change x unborn granted asks) (granted_is_of_somebody s role request a.change numbered nobody granted asks) (granted_span_is_ordered s role request a.change granted asks) in
    let whole : all_rows (took s a) ≡ all_rows s ++ audit_row a ∷ [] =
    ap (λ (rows : List AuditRow). s.audit ++ rows) (map-append audit_row s.changes (a ∷ [])) ∙ sym (append_assoc s.audit (map audit_row s.changes) (audit_row a ∷ [])) in
    subst (AllByRecursion (IsAuditRow (took s a).next)) (sym whole) (rows_push (took s a).next (all_rows s) (audit_row a) (grow_rows s.next (took s a).next (all_rows s) grows all) row)
