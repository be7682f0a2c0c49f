use Rattle.std.specs.List.{AllByRecursion}
use Rattle.std.proofs.Common.{List, [], ◌∷◌, ◌++◌, Option, None, subst, ◌≡◌, ◌+◌, ◌<◌, ◌≤◌, max, ℕ, Some, refl, sym, ap, ◌∙◌, arith}
use Rattle.s4_types.specs.declared.changes.Change.TheVariants as change
use Rattle.s4_types.specs.declared.requests.Request.TheVariants.{Control}
use Rattle.s4_types.specs.declared.requests.AdminRequest.TheVariants.{FlushO}
use Rattle.s4_types.specs.declared.spans.Span.{Span}
use Rattle.s4_model.specs.Refusals.{last_number}
use Rattle.s4_model.specs.State.{State, state_of}
use Rattle.s4_model.specs.Step.{stamp, accepted_record}
use Rattle.segment_word.specs.AcceptViews.{Ledger}
use Rattle.segment_table.specs.Room.{log_of}
use Rattle.version_store.specs.Store.{fields_of}
use Rattle.std.proofs.lemmas.Result.{err_from_is_err_and}
use Rattle.drive.specs.Later.{later_refusal}
use Rattle.s4_types.specs.declared.audit_rows.AuditRow.{AuditRow}
use Rattle.s4_types.specs.declared.refusals.Refusal.{Refusal}
use Rattle.drive.specs.Fields.{DriveFields, state_in, store_of}
use Rattle.drive.specs.Refusing.{or_then}
use Rattle.drive.proofs.Storing.{refuses_roomless_control}
use Rattle.drive.proofs.Auditing.{audit_after_change, row_is_later}
use Rattle.drive.specs.Keeping.{IsKeptDrive}
use Rattle.drive.proofs.Parts.{can_count, kept_of}
use Rattle.drive.proofs.Unversioned.{object_bad, refuses_bad, span_at, object_later, object_given, after_hidden}
use Rattle.drive.proofs.drive.Drive.flush_object.Goals as goal

pub returns-in_err-check_span : goal.returns-in_err-check_span
returns-in_err-check_span g c =
    let p = err_from_is_err_and c.from_residual.result c.from_residual.ensures.1 in
    let kept : IsKeptDrive (state_in c.args.self.now) (store_of c.args.self.now) c.self.inside.window c.self.inside.next = kept_of c.args.self.now g.J.Naming.base c.self.inside.history c.self.inside.store c.self.inside.audit.rows c.self.inside.window c.self.inside.next c.self.view_is c.self.invariant in
    let bad = c.in_err-check_span.ensures.of_all (state_in c.args.self.now) kept.window in
    let of_one = c.in_err-check_span.ensures.of_one (state_in c.args.self.now) c.args.object kept.window in
    rw (p.1, p.2) (refuses_bad (store_of c.args.self.now) (later_refusal (state_in c.args.self.now) (Control (FlushO c.args.object c.args.first c.args.last))) c.args.self.now c.args.session.now (Control (FlushO c.args.object c.args.first c.args.last)) c.args.now _ (object_bad (state_in c.args.self.now) (span_at c.args.object c.args.first c.args.last) (of_one ∙ bad.1)) bad.0)

pub accept-requires : goal.accept-requires
accept-requires g c = can_count c.self.inside.history c.self.invariant.1.sound (subst (λ (t : ℕ). t < last_number) c.self.invariant.1.window.clock c.in_ok-plan.ensures.clock)

pub returns-in_err-reserve : goal.returns-in_err-reserve
returns-in_err-reserve g c =
    let p = err_from_is_err_and c.from_residual-in_err-reserve.result c.from_residual-in_err-reserve.ensures.1 in
    let s : State = state_in c.args.self.now in
    let kept : IsKeptDrive s (store_of c.args.self.now) c.self.inside.window c.self.inside.next = kept_of c.args.self.now g.J.Naming.base c.self.inside.history c.self.inside.store c.self.inside.audit.rows c.self.inside.window c.self.inside.next c.self.view_is c.self.invariant in
    let next : c.self.inside.next ≡ s.next = kept.next in
    let low : 1 ≤ c.args.object = c.in_ok-check_given.ensures.0 in
    let lt : c.args.object < c.self.inside.next = c.in_ok-check_given.ensures.1 in
    let free : later_refusal s (Control (FlushO c.args.object c.args.first c.args.last)) ≡ None =
    object_later s (span_at c.args.object c.args.first c.args.last) c.self.inside.next next (c.in_ok-check_span.ensures.of_one s c.args.object kept.window ∙ c.in_ok-check_span.ensures.of_all s kept.window) low lt
    ∙ c.in_ok-plan.ensures.judged s kept.window (omega arith) in
    rw (p.1, p.2) (refuses_roomless_control (store_of c.args.self.now) (later_refusal s (Control (FlushO c.args.object c.args.first c.args.last))) c.args.self.now _ c.args.session.now (Control (FlushO c.args.object c.args.first c.args.last)) c.args.now _
    tt (ap (λ (r : Option Refusal). or_then r None) free) (ap (λ (d : DriveFields). d.ledger) c.self.view_is) (ap (λ (d : DriveFields). store_of d) c.self.view_is) c.in_err-reserve.ensures.err)

pub push-requires-clause-later : goal.push-requires-clause-later
push-requires-clause-later g c =
    let s : State = state_of c.self.inside.history.history in
    let at : c.flush-moment.result ≡ stamp s c.args.now = c.flush-moment.ensures.moment ∙ ap (λ (t : ℕ). max c.args.now (t + 1)) c.self.invariant.1.window.clock in
    subst (λ (rows : List AuditRow). AllByRecursion (λ other. other.moment < c.row_of.result.moment) rows) (sym c.reserve.ensures.rows)
    (row_is_later s c.self.inside.audit.rows c.args.now c.flush-moment.result (change.FlushO c.args.object c.args.first c.args.last) c.row_of.result c.self.invariant.2 at c.row_of.ensures)

pub invariant_of-self-2 : goal.invariant_of-self-2
invariant_of-self-2 g c =
    let s : State = state_of c.self.inside.history.history in
    let clock : c.self.inside.window.clock ≡ s.clock = c.self.invariant.1.window.clock in
    let next : c.self.inside.next ≡ s.next = c.self.invariant.1.next in
    let at : c.flush-moment.result ≡ stamp s c.args.now = c.flush-moment.ensures.moment ∙ ap (λ (t : ℕ). max c.args.now (t + 1)) clock in
    let low : 1 ≤ c.args.object = c.in_ok-check_given.ensures.0 in
    let lt : c.args.object < c.self.inside.next = c.in_ok-check_given.ensures.1 in
    let span : Span = span_at c.args.object c.args.first c.args.last in
    let is : c.in_ok-plan.plan.span ≡ span = c.in_ok-plan.ensures.planned.0 in (
      ap (λ (l : Ledger). l.history.base) c.accept.ensures.history ∙ c.self.invariant.0,
      after_hidden c.histories_go_on_record_by_record.ensures.steps c.histories_go_on_record_by_record.ensures.by_changes c.self.inside.history c.accept.new.history c.session.inside.seat.seat (fields_of log_of c.self.inside.store) c.self.inside.window c.flush-moment.new.self c.self.inside.next (Control (FlushO c.args.object c.args.first c.args.last)) c.args.now c.flush-moment.result (change.FlushO c.args.object c.args.first c.args.last)
          c.self.invariant.1
          (object_later s span c.self.inside.next next (c.in_ok-check_span.ensures.of_one s c.args.object c.self.invariant.1.window ∙ c.in_ok-check_span.ensures.of_all s c.self.invariant.1.window) low lt
          ∙ c.in_ok-plan.ensures.judged s c.self.invariant.1.window (omega arith))
          refl refl at c.accept.ensures.history
          (c.flush-moment.ensures.taken s (accepted_record s (change.FlushO c.args.object c.args.first c.args.last) c.args.now) c.self.invariant.1.window
          (object_given c.args.object c.args.first c.args.last c.self.inside.next s.next c.in_ok-plan.plan.span next lt is) (sym at)
          (ap (λ (x : Span). Some x) (sym is))),
      audit_after_change c.histories_go_on_record_by_record.ensures.audit c.histories_go_on_record_by_record.ensures.by_changes c.self.inside.history c.accept.new.history c.session.inside.seat.seat c.self.inside.audit.rows c.push.new.self.rows c.args.now c.flush-moment.result (change.FlushO c.args.object c.args.first c.args.last) c.row_of.result
          c.self.invariant.2 c.self.invariant.1.sound at c.accept.ensures.history c.row_of.ensures (c.push.ensures ∙ ap (λ (rows : List AuditRow). rows ++ c.row_of.result ∷ []) c.reserve.ensures.rows),
    )
