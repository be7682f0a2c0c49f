use Rattle.drive.specs.Fields.{history_of}
use Rattle.std.proofs.lemmas.Option.{none-some}
use Rattle.s4_types.specs.declared.requests.Request.TheVariants.{Control}
use Rattle.s4_types.specs.declared.requests.AdminRequest.TheVariants.{FlushO}
use Rattle.history_restore.proofs.Flushing.{refused_flush, granted_flush}
use Rattle.history_restore.proofs.Storing.{clock_granted, clock_refused, moved_granted}
use Rattle.history_restore.proofs.Stepping.{dated_refused}
use Rattle.history_restore.proofs.room.flush.Goals as goal

pub returns-in-Refused : goal.returns-in-Refused
returns-in-Refused g c = record {
  hides = tt;
  objects = refused_flush (history_of c.args.drive.now) (history_of c.request.new.self) c.args.session.now.role c.args.object c.args.first c.args.last c.args.now c.request.result c.in-Refused.refusal
      c.what_requests_come_to.ensures.by_moments c.rules.ensures.sound c.in-Refused.is c.request.ensures.step;
  clock = clock_refused (history_of c.args.drive.now) (history_of c.request.new.self) c.args.session.now.role (Control (FlushO c.args.object c.args.first c.args.last)) c.args.now c.request.result c.in-Refused.refusal
      c.what_requests_come_to.ensures.by_moments (λ s r is. none-some r is) c.in-Refused.is c.request.ensures.step;
  moved = tt;
  dated = dated_refused (history_of c.args.drive.now) (history_of c.request.new.self) c.args.session.now.role (Control (FlushO c.args.object c.args.first c.args.last)) c.args.now c.request.result c.in-Refused.refusal
      c.what_requests_come_to.ensures.by_moments (λ s r is. none-some r is) c.in-Refused.is c.request.ensures.step;
}

pub returns : goal.returns
returns g c =
    let leaves = granted_flush (history_of c.args.drive.now) (history_of c.request.new.self) c.args.session.now.role c.args.object c.args.first c.args.last c.args.now c.request.result
    c.what_requests_come_to.ensures.by_changes c.what_requests_come_to.ensures.of_one c.rules.ensures.sound c.in_default.not-Refused c.request.ensures.step in
    let clock = clock_granted (history_of c.args.drive.now) (history_of c.request.new.self) c.args.session.now.role (Control (FlushO c.args.object c.args.first c.args.last)) c.args.now c.request.result
    c.what_requests_come_to.ensures.by_changes (λ s r is. none-some r is) c.in_default.not-Refused c.request.ensures.step in
    let moved = moved_granted (history_of c.args.drive.now) (history_of c.request.new.self) c.args.session.now.role (Control (FlushO c.args.object c.args.first c.args.last)) c.args.now c.request.result
    c.what_requests_come_to.ensures.by_changes (λ s r is. none-some r is) c.in_default.not-Refused c.request.ensures.step in
    record { hides = leaves.hides; objects = leaves.objects; clock = clock; moved = moved; dated = λ o t before. leaves.versions o t }
