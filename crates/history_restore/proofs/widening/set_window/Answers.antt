use Rattle.s4_model.specs.Step.{stamp}
use Rattle.drive.specs.Answering.{is_acceptance}
use Rattle.drive.specs.Fields.{history_of, state_in, store_of}
use Rattle.history_restore.proofs.Windows.{granted_window, refused_window, why_refused, window_stores_none}
use Rattle.history_restore.proofs.widening.set_window.Goals as goal

pub returns-in-Refused-clause-refused : goal.returns-in-Refused-clause-refused
returns-in-Refused-clause-refused g c =
    why_refused (history_of c.args.drive.now) (history_of c.request.new.self) c.args.session.now.role c.args.window c.args.now c.request.result c.in-Refused.refusal c.in-Refused.is c.request.ensures.step

pub returns-in-Refused-clause-past : goal.returns-in-Refused-clause-past
returns-in-Refused-clause-past g c =
    refused_window (history_of c.args.drive.now) (history_of c.request.new.self) c.args.session.now.role c.args.window c.args.now c.request.result c.in-Refused.refusal
    c.what_requests_come_to.ensures.by_moments c.in-Refused.is c.request.ensures.step

pub returns-clause-widened : goal.returns-clause-widened
returns-clause-widened g c =
    granted_window (history_of c.args.drive.now) (history_of c.request.new.self) c.args.session.now.role c.args.window c.args.now c.request.result
    c.what_requests_come_to.ensures.by_changes c.what_requests_come_to.ensures.acts c.rules.ensures.sound c.in_default.not-Refused c.request.ensures.step

pub returns-clause-store : goal.returns-clause-store
returns-clause-store g c =
    window_stores_none (is_acceptance c.request.result) (state_in c.args.drive.now) c.args.window (stamp (state_in c.args.drive.now) c.args.now) (store_of c.args.drive.now) (store_of c.request.new.self) c.request.ensures.stored
