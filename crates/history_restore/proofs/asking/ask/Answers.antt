use Rattle.s4_types.specs.declared.requests.Request.TheVariants.{Update}
use Rattle.drive.specs.Fields.{history_of}
use Rattle.history_restore.proofs.Stepping.{refused_leaves, granted_leaves, no_read}
use Rattle.history_restore.proofs.Denying.{is_given}
use Rattle.history_restore.proofs.Storing.{lacks_refused, moved_granted, stored_granted}
use Rattle.history_restore.proofs.asking.ask.Goals as goal

pub returns-in-Refused : goal.returns-in-Refused
returns-in-Refused g c =
    let h = history_of c.args.drive.now in
    let after = history_of c.request.new.self in
    let role = c.args.session.now.role in
    let leaves = refused_leaves h after role (Update c.args.update) c.args.now c.request.result c.in-Refused.refusal
    c.what_requests_come_to.ensures.by_moments c.rules.ensures.sound tt c.in-Refused.is c.request.ensures.step in
    record {
      granted = tt;
      refused = is_given h after role (Update c.args.update) c.args.now c.request.result c.in-Refused.refusal tt c.in-Refused.is c.request.ensures.step;
      stored = tt;
      lacks = lacks_refused c.args.drive.now c.request.new.self role (Update c.args.update) c.args.now c.request.result c.in-Refused.refusal tt c.in-Refused.is c.request.ensures.refused;
      moved = tt;
      dated = leaves.dated;
      others = leaves.others;
      past = leaves.past;
    }

pub returns : goal.returns
returns g c =
    let h = history_of c.args.drive.now in
    let after = history_of c.request.new.self in
    let role = c.args.session.now.role in
    let leaves = granted_leaves h after role (Update c.args.update) c.args.now c.request.result
    c.what_requests_come_to.ensures.by_changes c.what_requests_come_to.ensures.acts c.rules.ensures.sound tt c.in_default.not-Refused c.request.ensures.step in
    record {
      granted = leaves.granted;
      refused = tt;
      stored = stored_granted c.args.drive.now c.request.new.self role (Update c.args.update) c.args.now c.request.result tt c.in_default.not-Refused c.request.ensures.step c.request.ensures.stored;
      lacks = tt;
      moved = moved_granted h after role (Update c.args.update) c.args.now c.request.result c.what_requests_come_to.ensures.by_changes (no_read (Update c.args.update) tt) c.in_default.not-Refused c.request.ensures.step;
      dated = leaves.dated;
      others = leaves.others;
      past = leaves.past;
    }
