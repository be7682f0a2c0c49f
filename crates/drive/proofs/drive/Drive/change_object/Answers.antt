use Rattle.std.proofs.Common.{◌≡◌, ◌+◌, ◌++◌, ◌<◌, ◌∷◌, [], List, max, ℕ, sym, ap, subst, ◌∙◌}
use Rattle.std.specs.List.{AllByRecursion}
use Rattle.std.proofs.lemmas.Result.{err_from_is_err_and}
use Rattle.s4_types.specs.declared.audit_rows.AuditRow.{AuditRow}
use Rattle.s4_types.specs.declared.changes.Change.{Change}
use Rattle.s4_types.specs.declared.requests.Request.TheVariants.{Update}
use Rattle.s4_model.specs.State.{State, state_of, took}
use Rattle.s4_model.specs.Refusals.{last_number}
use Rattle.s4_model.specs.Step.{stamp, accepted_record}
use Rattle.s4_model.specs.Sound.{IsSound}
use Rattle.s4_model.specs.Plain.{HasNext}
use Rattle.segment_word.specs.AcceptViews.{Ledger}
use Rattle.segment_table.specs.Room.{log_of}
use Rattle.version_store.specs.Store.{StoreFields, fields_of}
use Rattle.version_store.specs.Taking.{Takes}
use Rattle.drive.specs.Later.{later_refusal}
use Rattle.version_store.specs.Costs.{short_of}
use Rattle.drive.specs.Fields.{DriveFields, SessionFields, state_in, store_of}
use Rattle.drive.specs.Keeping.{IsKeptDrive}
use Rattle.drive.proofs.Parts.{can_count}
use Rattle.drive.proofs.Auditing.{audit_after_change, row_is_later}
use Rattle.drive.proofs.Storing.{after_stored, ready_of_versions, takes_stored, refuses_untaken, refuses_roomless, refuses_checked}
use Rattle.drive.proofs.drive.Drive.change_object.Goals as goal

pub accept-requires : goal.accept-requires
accept-requires g c =
    let ledger : c.self.inside.history ≡ c.args.self.now.ledger = ap (λ (d : DriveFields). d.ledger) c.self.view_is in
    can_count c.self.inside.history c.self.invariant.1.sound (subst (λ (l : Ledger). (state_of l.history).clock < last_number) (sym ledger) c.in_ok-change.ensures.clock)

pub invariant_of-self-2 : goal.invariant_of-self-2
invariant_of-self-2 g c =
    let s : State = state_of c.self.inside.history.history in
    let store : StoreFields = fields_of log_of c.self.inside.store in
    let change : Change = c.in_ok-change.field-0.change in
    let ledger : c.self.inside.history ≡ c.args.self.now.ledger = ap (λ (d : DriveFields). d.ledger) c.self.view_is in
    let held : store ≡ store_of c.args.self.now = ap (λ (d : DriveFields). store_of d) c.self.view_is in
    let takes : Takes store change = subst (λ (x : StoreFields). Takes x change) (sym held) c.in_ok-change.ensures.takes in
    let at : c.in_ok-change.field-0.moment ≡ stamp s c.args.now = subst (λ (l : Ledger). c.in_ok-change.field-0.moment ≡ stamp (state_of l.history) c.args.now) (sym ledger) c.in_ok-change.ensures.moment in
    let stamped : c.stamp.result ≡ stamp s c.args.now = c.stamp.ensures.moment ∙ ap (λ (t : ℕ). max c.args.now (t + 1)) c.self.invariant.1.window.clock in (
      ap (λ (l : Ledger). l.history.base) c.accept.ensures.history ∙ c.self.invariant.0,
      subst (λ (n : ℕ). IsKeptDrive (state_of c.accept.new.history.history) (fields_of log_of c.take.new.self) c.stamp.new.self n) (sym c.next_after-self-inside.ensures)
          (after_stored c.what_changes_of_objects_rest_on.ensures.present c.what_changes_of_objects_rest_on.ensures.by_changes c.self.inside.history c.accept.new.history c.session.inside.seat.seat store (fields_of log_of c.take.new.self) c.self.inside.window c.stamp.new.self c.self.inside.next c.args.now c.in_ok-change.field-0.moment change
          c.self.invariant.1 takes.ready
          (subst (λ (l : Ledger). HasNext (state_of l.history).next change) (sym ledger) c.in_ok-change.ensures.next)
          at c.accept.ensures.history
          c.take.ensures.store c.in_ok-take.ensures.taken c.in_ok-take.ensures.latest c.in_ok-take.ensures.rows
          (c.stamp.ensures.taken s (accepted_record s change c.args.now) c.self.invariant.1.window (sym stamped) (ready_of_versions store change takes.ready))
          (subst (λ (l : Ledger). IsSound (took (state_of l.history) (accepted_record (state_of l.history) change c.args.now))) (sym ledger) c.in_ok-change.ensures.sound)),
      audit_after_change c.what_changes_of_objects_rest_on.ensures.audit c.what_changes_of_objects_rest_on.ensures.by_changes c.self.inside.history c.accept.new.history c.session.inside.seat.seat c.self.inside.audit.rows c.push.new.self.rows c.args.now c.in_ok-change.field-0.moment change c.row_of.result
          c.self.invariant.2 c.self.invariant.1.sound at c.accept.ensures.history c.row_of.ensures
          (c.push.ensures ∙ ap (λ (rows : List AuditRow). rows ++ c.row_of.result ∷ []) c.reserve.ensures.rows),
    )

pub returns-in_err-change : goal.returns-in_err-change
returns-in_err-change g c =
    let p = err_from_is_err_and c.from_residual.result c.from_residual.ensures.1 in
    rw (p.1, p.2) (refuses_checked (short_of c.args.least (store_of c.args.self.now)) (later_refusal (state_in c.args.self.now) (Update c.args.update)) c.args.self.now c.args.session.now (Update c.args.update) c.args.now _ c.in_err-change.ensures.refused)

pub returns-in_err-reserve : goal.returns-in_err-reserve
returns-in_err-reserve g c =
    let p = err_from_is_err_and c.from_residual-in_err-reserve.result c.from_residual-in_err-reserve.ensures.1 in
    rw (p.1, p.2) (refuses_roomless (short_of c.args.least (store_of c.args.self.now)) (later_refusal (state_in c.args.self.now) (Update c.args.update)) c.args.self.now _ c.args.session.now c.args.update c.args.now _
    (ap (λ (d : DriveFields). d.ledger) c.self.view_is) (ap (λ (d : DriveFields). store_of d) c.self.view_is) c.in_ok-change.ensures.free c.in_err-reserve.ensures.err)

pub push-requires-clause-later : goal.push-requires-clause-later
push-requires-clause-later g c =
    let s : State = state_of c.self.inside.history.history in
    let change : Change = c.in_ok-change.field-0.change in
    let ledger : c.self.inside.history ≡ c.args.self.now.ledger = ap (λ (d : DriveFields). d.ledger) c.self.view_is in
    let at : c.in_ok-change.field-0.moment ≡ stamp s c.args.now = subst (λ (l : Ledger). c.in_ok-change.field-0.moment ≡ stamp (state_of l.history) c.args.now) (sym ledger) c.in_ok-change.ensures.moment in
    subst (λ (rows : List AuditRow). AllByRecursion (λ other. other.moment < c.row_of.result.moment) rows) (sym c.reserve.ensures.rows)
    (row_is_later s c.self.inside.audit.rows c.args.now c.in_ok-change.field-0.moment change c.row_of.result c.self.invariant.2 at c.row_of.ensures)

pub returns-in_err-take : goal.returns-in_err-take
returns-in_err-take g c =
    let p = err_from_is_err_and c.from_residual-in_err-take.result c.from_residual-in_err-take.ensures.1 in
    let change : Change = c.in_ok-change.field-0.change in
    let ledger : c.self.inside.history ≡ c.args.self.now.ledger = ap (λ (d : DriveFields). d.ledger) c.self.view_is in
    let held : fields_of log_of c.self.inside.store ≡ store_of c.args.self.now = ap (λ (d : DriveFields). store_of d) c.self.view_is in
    rw (p.1, p.2) (refuses_untaken c.args.least (later_refusal (state_in c.args.self.now) (Update c.args.update)) c.args.self.now _ c.args.session.now (Update c.args.update) c.args.now c.in_ok-change.field-0.moment change _ (fields_of log_of c.self.inside.store)
    ledger (c.in_err-take.ensures.unchanged ∙ held) held c.in_ok-change.ensures.asked c.in_ok-change.ensures.takes.ready c.in_ok-change.ensures.free
    c.in_ok-change.ensures.moment c.in_err-take.ensures.answer c.in_err-take.ensures.memory)

pub returns : goal.returns
returns g c =
    let inside : SessionFields = record { told = c.session.inside.seat; role = c.session.inside.role } in
    let after : SessionFields = record { told = c.accept.new.session; role = c.session.inside.role } in
    takes_stored c.args.least (later_refusal (state_in c.args.self.now) (Update c.args.update)) c.args.self.now _ c.args.session.now after (Update c.args.update) c.args.now c.in_ok-change.field-0.moment c.in_ok-change.field-0.change c.reply_at.result
    c.self.inside.history inside (fields_of log_of c.self.inside.store)
    (ap (λ (d : DriveFields). store_of d) c.self.view_is) (ap (λ (d : DriveFields). d.ledger) c.self.view_is) c.session.view_is
    c.in_ok-change.ensures.asked c.in_ok-change.ensures.takes.ready c.in_ok-change.ensures.free c.in_ok-change.ensures.moment c.in_ok-take.ensures.answer
    c.in_ok-take.ensures.blocks c.in_ok-take.ensures.row c.in_ok-take.ensures.latest
    c.accept.ensures.history c.reply_at.ensures (ap (λ t. record inside { told = t }) c.accept.ensures.session) c.accept.ensures.before c.accept.ensures.after
