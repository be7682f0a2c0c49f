use Rattle.std.proofs.Common.{ℕ, All, Bool, IfOk, List, OnOk, Option, subst, sym}
use Rattle.std.proofs.lemmas.Result.{on_ok_weaker, on_err_weaker, IfOk-weaker, IfErr-weaker}
use Rattle.segment_table.specs.Room.{log_of}
use Rattle.version_store.specs.Store.{fields_of}
use Rattle.s4_types.specs.History.{Base}
use Rattle.drive.specs.Opened.{base_of}
use Rattle.server.specs.Drawing.{AreTicks}
use Rattle.image_parts.specs.Image.{image_in}
use Rattle.s4d_command.specs.declared.sessions.RunSession.{RunSession}
use Rattle.s4d.specs.Opening.{HoldsAt}
use Rattle.s4d.specs.Running.{IsSavedIn, IsUnwritten, LeavesDrive, RunsImage, RunsSessions, SaysUnrun}
use Rattle.s4d.proofs.Promised.{promised}
use Rattle.s4d.proofs.Said.{unrun_on}
use Rattle.s4d.proofs.running.run_file.Goals as goal

pub returns-in-Ok-open : goal.returns-in-Ok-open
returns-in-Ok-open g c =
    let opened = c.in-Ok-open.opened in
    let verified = c.in-Ok.ensures.verified in
    let base : Base = base_of (fields_of log_of opened.store) opened.timeline opened.next opened.audit in
    let a = g.F.Files.contents c.args.files.now in
    let f = g.F.Files.contents c.run_begun.new.files in
    let opens = HoldsAt g.F.Files.writes g.F.Writer.Write.contents in
    let path = c.args.asked.now.image.now in
    let sessions = c.args.asked.now.sessions.items in
    let result = c.run_begun.result in
    let all = c.as_slice.ensures.value in
    let told = c.in-Ok-open.ensures.base verified.bytes (image_in verified.bytes) verified.spelled verified.told in
    let image : (saved : Option (List ℕ)) (ended : Bool)
    → LeavesDrive base (RunsSessions base 0 (AreTicks (record { start = c.clock.result; tick = c.args.asked.now.tick })) (record { start = c.clock.result; tick = c.args.asked.now.tick }) c.args.asked.now.upkeep opens a f c.as_slice.result.now ended) (IsSavedIn saved)
    → RunsImage opens c.args.asked.now a f saved ended = λ saved ended left. record {
      image = c.in-Ok.image;
      verified = verified;
      base = base;
      told = told;
      leaves = subst (λ (start : ℕ). LeavesDrive base (RunsSessions base 0 (AreTicks (record { start = start; tick = c.args.asked.now.tick })) (record { start = start; tick = c.args.asked.now.tick }) c.args.asked.now.upkeep opens a f sessions ended) (IsSavedIn saved)) c.clock.ensures
          (subst (λ (ss : List RunSession). LeavesDrive base (RunsSessions base 0 (AreTicks (record { start = c.clock.result; tick = c.args.asked.now.tick })) (record { start = c.clock.result; tick = c.args.asked.now.tick }) c.args.asked.now.upkeep opens a f ss ended) (IsSavedIn saved)) all left);
    } in
    let runs : IfOk result (λ ran. RunsImage opens c.args.asked.now a f (f path) ran.is_ended) = IfOk-weaker result _ _ (λ ran left. image (f path) ran.is_ended left) c.run_begun.ensures.left in
    record {
      image = runs;
      promise = IfOk-weaker result _ _ (λ ran. promised c.what_is_saved_goes_on.ensures opens c.args.asked.now a f ran.is_ended) runs;
      apart = subst (λ (ss : List RunSession). OnOk result (All (λ written. All (λ read. g.F.Files.apart read.input.now written.output.now) ss) ss)) all c.run_begun.ensures.apart;
      others = on_ok_weaker result (λ kept other from unwritten. kept other from (subst (λ (ss : List RunSession). IsUnwritten g.F.Files.apart ss other) (sym all) unwritten)) c.run_begun.ensures.others;
      unsaved = on_err_weaker result (λ kept other unwritten. kept other (subst (λ (ss : List RunSession). IsUnwritten g.F.Files.apart ss other) (sym all) unwritten)) c.run_begun.ensures.unsaved;
      unserved = c.run_begun.ensures.unserved;
      fault = IfErr-weaker result _ _
          (λ fault says. unrun_on (a path) path sessions (λ saved. (ended : Bool) × LeavesDrive base (RunsSessions base 0 (AreTicks (record { start = c.clock.result; tick = c.args.asked.now.tick })) (record { start = c.clock.result; tick = c.args.asked.now.tick }) c.args.asked.now.upkeep opens a f c.as_slice.result.now ended) (IsSavedIn saved)) (λ saved. (ended : Bool) × RunsImage opens c.args.asked.now a f saved ended) f (λ saved left. (left.0, image saved left.0 left.1)) fault
          (subst (λ (ss : List RunSession). SaysUnrun (a path) path ss (λ saved. (ended : Bool) × LeavesDrive base
          (RunsSessions base 0 (AreTicks (record { start = c.clock.result; tick = c.args.asked.now.tick })) (record { start = c.clock.result; tick = c.args.asked.now.tick }) c.args.asked.now.upkeep opens a f c.as_slice.result.now ended) (IsSavedIn saved)) f fault) all (says (a path))))
          c.run_begun.ensures.fault;
    }
