use Rattle.std.specs.List.{AllByRecursion}
use Rattle.std.proofs.lemmas.Result.{err_from_is_err_and}
use Rattle.std.proofs.Common.{List, [], ◌∷◌, ◌++◌, Option, None, subst, ◌≡◌, ◌+◌, ◌<◌, max, ℕ, refl, sym, ap, ◌∙◌, arith}
use Rattle.s4_types.specs.declared.changes.Change.TheVariants as change
use Rattle.s4_types.specs.declared.requests.Request.TheVariants.{Control}
use Rattle.s4_types.specs.declared.requests.AdminRequest.TheVariants.{SetWindow}
use Rattle.s4_model.specs.Refusals.{last_number}
use Rattle.s4_model.specs.State.{State, state_of}
use Rattle.s4_model.specs.Step.{stamp, accepted_record}
use Rattle.segment_word.specs.AcceptViews.{Ledger}
use Rattle.segment_table.specs.Room.{log_of}
use Rattle.version_store.specs.Store.{fields_of}
use Rattle.s4_types.specs.declared.refusals.Refusal.{Refusal}
use Rattle.drive.specs.Later.{later_refusal}
use Rattle.drive.specs.Fields.{DriveFields, state_in, store_of}
use Rattle.drive.specs.Keeping.{IsKeptDrive}
use Rattle.drive.specs.Refusing.{or_then}
use Rattle.drive.proofs.Storing.{refuses_roomless_control}
use Rattle.drive.proofs.Parts.{can_count, kept_of}
use Rattle.s4_types.specs.declared.audit_rows.AuditRow.{AuditRow}
use Rattle.drive.proofs.Unversioned.{window_free, after_hidden}
use Rattle.drive.proofs.Auditing.{audit_after_change, row_is_later}
use Rattle.drive.proofs.drive.Drive.set_window.Goals as goal

pub accept-requires : goal.accept-requires
accept-requires g c =
    let clock : c.self.inside.window.clock ≡ (state_of c.self.inside.history.history).clock = c.self.invariant.1.window.clock in
    let lt : c.clock.result < last_number = c.in_ok-check_clock.ensures in
    let is : c.clock.result ≡ c.self.inside.window.clock = c.clock.ensures in
    can_count c.self.inside.history c.self.invariant.1.sound (omega arith)

pub returns-in_err-reserve : goal.returns-in_err-reserve
returns-in_err-reserve g c =
    let p = err_from_is_err_and c.from_residual-in_err-reserve.result c.from_residual-in_err-reserve.ensures.1 in
    let kept : IsKeptDrive (state_in c.args.self.now) (store_of c.args.self.now) c.self.inside.window c.self.inside.next = kept_of c.args.self.now g.J.Naming.base c.self.inside.history c.self.inside.store c.self.inside.audit.rows c.self.inside.window c.self.inside.next c.self.view_is c.self.invariant in
    let lt : c.clock.result < last_number = c.in_ok-check_clock.ensures in
    let is : c.clock.result ≡ c.self.inside.window.clock = c.clock.ensures in
    let free : later_refusal (state_in c.args.self.now) (Control (SetWindow c.args.window)) ≡ None = window_free c.self.inside.window.clock (state_in c.args.self.now).clock kept.window.clock (omega arith) in
    rw (p.1, p.2) (refuses_roomless_control (store_of c.args.self.now) (later_refusal (state_in c.args.self.now) (Control (SetWindow c.args.window))) c.args.self.now _ c.args.session.now (Control (SetWindow c.args.window)) c.args.now _
    refl (ap (λ (r : Option Refusal). or_then r None) free) (ap (λ (d : DriveFields). d.ledger) c.self.view_is) (ap (λ (d : DriveFields). store_of d) c.self.view_is) c.in_err-reserve.ensures.err)

pub push-requires-clause-later : goal.push-requires-clause-later
push-requires-clause-later g c =
    let s : State = state_of c.self.inside.history.history in
    let at : c.set-moment.result ≡ stamp s c.args.now = c.set-moment.ensures.moment ∙ ap (λ (t : ℕ). max c.args.now (t + 1)) c.self.invariant.1.window.clock in
    subst (λ (rows : List AuditRow). AllByRecursion (λ other. other.moment < c.row_of.result.moment) rows) (sym c.reserve.ensures.rows)
    (row_is_later s c.self.inside.audit.rows c.args.now c.set-moment.result (change.SetWindow c.args.window) c.row_of.result c.self.invariant.2 at c.row_of.ensures)

pub invariant_of-self-2 : goal.invariant_of-self-2
invariant_of-self-2 g c =
    let s : State = state_of c.self.inside.history.history in
    let clock : c.self.inside.window.clock ≡ s.clock = c.self.invariant.1.window.clock in
    let lt : c.clock.result < last_number = c.in_ok-check_clock.ensures in
    let is : c.clock.result ≡ c.self.inside.window.clock = c.clock.ensures in
    let at : c.set-moment.result ≡ stamp s c.args.now = c.set-moment.ensures.moment ∙ ap (λ (t : ℕ). max c.args.now (t + 1)) clock in (
      ap (λ (l : Ledger). l.history.base) c.accept.ensures.history ∙ c.self.invariant.0,
      after_hidden c.histories_go_on_record_by_record.ensures.steps c.histories_go_on_record_by_record.ensures.by_changes c.self.inside.history c.accept.new.history c.session.inside.seat.seat (fields_of log_of c.self.inside.store) c.self.inside.window c.set-moment.new.self c.self.inside.next (Control (SetWindow c.args.window)) c.args.now c.set-moment.result (change.SetWindow c.args.window)
          c.self.invariant.1
          (window_free c.self.inside.window.clock s.clock clock (omega arith))
          refl refl at c.accept.ensures.history
          (c.set-moment.ensures.taken s (accepted_record s (change.SetWindow c.args.window) c.args.now) c.self.invariant.1.window (sym at) refl),
      audit_after_change c.histories_go_on_record_by_record.ensures.audit c.histories_go_on_record_by_record.ensures.by_changes c.self.inside.history c.accept.new.history c.session.inside.seat.seat c.self.inside.audit.rows c.push.new.self.rows c.args.now c.set-moment.result (change.SetWindow c.args.window) c.row_of.result
          c.self.invariant.2 c.self.invariant.1.sound at c.accept.ensures.history c.row_of.ensures (c.push.ensures ∙ ap (λ (rows : List AuditRow). rows ++ c.row_of.result ∷ []) c.reserve.ensures.rows),
    )
