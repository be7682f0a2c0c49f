use Rattle.std.proofs.Common.{sym, ap, subst, ◌∙◌}
use Rattle.s4_types.specs.History.{Base}
use Rattle.s4_model.specs.State.{new_history}
use Rattle.segment_word.specs.AcceptViews.{Ledger, begun}
use Rattle.drive.specs.Fields.{DriveFields, history_of}
use Rattle.image_commands.specs.Making.{IsEmptyStore}
use Rattle.s4d.proofs.piping.serve_named.Goals as goal

-- the session is one of the drive that was just made, by a clock that starts at 0
pub returns-clause-session : goal.returns-clause-session
returns-clause-session g c = record {
  old = c.in_ok-own.own;
  history =
      ap history_of c.in_ok-own.ensures.drive
      ∙ ap (λ (l : Ledger). l.history) c.named.ensures.ledger
      ∙ ap (λ (b : Base). (begun b).history) (sym c.requires.base)
      ∙ ap new_history c.requires.window;
  store = subst (IsEmptyStore c.args.pipe.frames) (sym (ap (λ (d : DriveFields). d.store) c.in_ok-own.ensures.drive ∙ c.named.ensures.store)) c.requires.store;
  role = c.in_ok-own.ensures.role;
  before = c.new-clock.result;
  start = c.new-clock.ensures.present ∙ c.new-2.ensures;
  tick = c.new-clock.ensures.tick;
  new = c.serve.new.backend;
  after = c.serve.new.clock;
  session = c.serve.ensures.session;
}
