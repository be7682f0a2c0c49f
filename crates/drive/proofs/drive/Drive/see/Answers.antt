use Rattle.std.proofs.Common.{◌≡◌, ap, ◌∙◌}
use Rattle.s4_model.specs.State.{state_of}
use Rattle.segment_word.specs.AcceptViews.{Ledger, with_moment}
use Rattle.segment_table.specs.Room.{log_of}
use Rattle.version_store.specs.Store.{fields_of}
use Rattle.drive.proofs.Unversioned.{after_moment}
use Rattle.drive.proofs.Auditing.{audit_after_moment}
use Rattle.drive.proofs.drive.Drive.see.Goals as goal

pub invariant_of-self : goal.invariant_of-self
invariant_of-self g c =
    let is : c.meet.new.self ≡ with_moment c.self.inside.history c.args.now = c.meet.ensures.same ∙ c.see.ensures in (
      ap (λ (l : Ledger). l.history.base) is ∙ c.self.invariant.0,
      after_moment c.histories_go_on_record_by_record.ensures.steps c.histories_go_on_record_by_record.ensures.by_moments c.self.inside.history c.meet.new.self (fields_of log_of c.self.inside.store) c.self.inside.window c.observe.new.self c.self.inside.next c.args.now c.self.invariant.1 is (c.observe.ensures (state_of c.self.inside.history.history) c.self.invariant.1.window),
      audit_after_moment c.histories_go_on_record_by_record.ensures.audit c.histories_go_on_record_by_record.ensures.by_moments c.self.inside.history c.meet.new.self c.self.inside.audit.rows c.args.now c.self.invariant.2 is,
    )
