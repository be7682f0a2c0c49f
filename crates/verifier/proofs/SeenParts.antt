-- What a drive has once it has seen a moment.
use Rattle.std.proofs.Common.{◌≡◌, inl, inr, ℕ, ◌≤◌, List, [], ◌∷◌, length, map, filter, count_by, sym, ap, subst, ◌∙◌, arith}
use Rattle.std.specs.List.{AllByRecursion}
use Rattle.std.proofs.lemmas.Bool.{cases_lt}
use Rattle.std.proofs.lemmas.List.Sums.{length-filter, count_by-le-length}
use Rattle.s4_types.specs.declared.audit_rows.AuditRow.{AuditRow}
use Rattle.s4_types.specs.declared.limits.TheConstants.{RUNS_IN_ALL}
use Rattle.s4_types.specs.declared.spans.Span.{Span}
use Rattle.s4_model.specs.Audit.{AreAuditRows, IsRowBetween, audit_of, rows_from}
use Rattle.s4_model.specs.Sound.{EndsBefore, IsOfGiven}
use Rattle.s4_model.specs.State.{State, seen}
use Rattle.s4_model.proofs.AuditLaws.{moment_cuts, from_kept, from_cut}
use Rattle.audit_log.proofs.Rows.{from_ascends}
use Rattle.window.specs.Runs.{cut, is_live}
use Rattle.window.proofs.Covering.{covers_live}
use Rattle.window.proofs.Cutting.{cut_all, cut_from, cut_ascend, cut_length, cut_few, cut_alike}
use Rattle.window.proofs.Live.{ends_later, live_from}
use Rattle.window.proofs.Ordering.{Ascend-filter, all_filter}
use Rattle.window.proofs.OwnCounts.{few_in_some}
use Rattle.verifier.specs.Saved.{AreSpansOf}

-- ---- spans

cut_spans : (s : State) (m : ℕ) (old : List Span) → AreSpansOf s old → AreSpansOf (seen s m) (map (cut (seen s m).floor) (filter (is_live (seen s m).floor) old))
cut_spans s m old is =
    let floor : ℕ = (seen s m).floor in
    let clock : ℕ = (seen s m).clock in
    let left : List Span = filter (is_live floor) old in
    let size : length (map (cut floor) left) ≡ length left = cut_length floor left in
    let counted : length left ≡ count_by (is_live floor) old = length-filter (is_live floor) old in
    let fewer : count_by (is_live floor) old ≤ length old = count_by-le-length (is_live floor) old in
    let few : length old ≤ RUNS_IN_ALL = is.few in
    record {
      alike = λ list t le. cut_alike floor left list t le ∙ covers_live floor list t old le ∙ is.alike list t (omega (arith, le));
      ordered = cut_ascend floor left (live_from floor old) (Ascend-filter (is_live floor) old is.ordered);
      from_floor = cut_from floor left;
      past = cut_all (EndsBefore clock) floor left (λ run h. h) (all_filter (EndsBefore clock) (is_live floor) old (ends_later s.clock clock old (omega arith) is.past));
      given = cut_all (IsOfGiven s.next) floor left (λ run h. h) (all_filter (IsOfGiven s.next) (is_live floor) old is.given);
      few = omega (arith, size, counted, fewer, few);
      few_in_each_list = cut_few floor left (few_in_some (is_live floor) old is.few_in_each_list);
    }

pub spans_are : (s : State) (m floor : ℕ) (old left : List Span) → AreSpansOf s old → floor ≡ (seen s m).floor → left ≡ map (cut floor) (filter (is_live floor) old) → AreSpansOf (seen s m) left
spans_are s m floor old left is at cuts =
    subst (AreSpansOf (seen s m)) (sym (cuts ∙ ap (λ (f : ℕ). map (cut f) (filter (is_live f) old)) at)) (cut_spans s m old is)

-- ---- the audit

pub each_from : (low floor clock later next : ℕ) (rows : List AuditRow) → clock ≤ later → AllByRecursion (IsRowBetween low clock next) rows → AllByRecursion (IsRowBetween floor later next) (rows_from floor rows)
each_from low floor clock later next [] le all = tt
each_from low floor clock later next (row ∷ rows) le all =
    let rest = each_from low floor clock later next rows le all.1 in
    let past : row.moment ≤ clock = all.0.1 in
    elim (cases_lt row.moment floor) as (λ _. AllByRecursion (IsRowBetween floor later next) (rows_from floor (row ∷ rows))) [
      | inl early ↦ subst (AllByRecursion (IsRowBetween floor later next)) (sym (from_cut floor row rows early)) rest
      | inr late ↦ subst (AllByRecursion (IsRowBetween floor later next)) (sym (from_kept floor row rows late)) ((late, omega (arith, past, le), all.0.2), rest)
    ]

cut_audit : (s : State) (m : ℕ) (old : List AuditRow) → AreAuditRows s.floor s.clock s.next old → AreAuditRows (seen s m).floor (seen s m).clock s.next (rows_from (seen s m).floor old)
cut_audit s m old kept = record {
  each = each_from s.floor (seen s m).floor s.clock (seen s m).clock s.next old (omega arith) kept.each;
  ascend = from_ascends (seen s m).floor old kept.ascend;
}

pub audit_is : (s : State) (m floor : ℕ) (old left : List AuditRow) → old ≡ audit_of s → floor ≡ (seen s m).floor → left ≡ rows_from floor old → left ≡ audit_of (seen s m)
audit_is s m floor old left is at cuts = cuts ∙ ap (rows_from floor) is ∙ ap (λ (f : ℕ). rows_from f (audit_of s)) at ∙ sym (moment_cuts s m)

pub audit_keeps : (s : State) (m floor : ℕ) (old left : List AuditRow) → AreAuditRows s.floor s.clock s.next old → floor ≡ (seen s m).floor → left ≡ rows_from floor old → AreAuditRows (seen s m).floor (seen s m).clock s.next left
audit_keeps s m floor old left kept at cuts =
    subst (AreAuditRows (seen s m).floor (seen s m).clock s.next) (sym (cuts ∙ ap (λ (f : ℕ). rows_from f old) at)) (cut_audit s m old kept)
