use Rattle.std.proofs.Common.{◌≡◌, ◌↔◌, ◌≤◌, ◌&&◌, ℕ, All, Bool, false, IsTrue, List, MatchResult, Option, ap, arith, get_or, length, subst, sym}
use Rattle.std.specs.Io.KnownBytes.{Keeps}
use Rattle.std.specs.List.{AllZip}
use Rattle.std.proofs.KnownBytes.{Keeps-trans}
use Rattle.std.proofs.lemmas.Result.{on_ok_weaker, on_err_weaker, IfErr-weaker}
use Rattle.s4_types.specs.History.{Base}
use Rattle.serving.specs.declared.ends.ServeEnd.TheVariants.{Ended}
use Rattle.server.specs.Drawing.{ClockFields}
use Rattle.server.specs.declared.running.Outcome.TheVariants.{Served}
use Rattle.image_commands.specs.Files.{AreKnown}
use Rattle.image_commands.specs.Leaving.{IsBeside, IsKeptOrLeft}
use Rattle.s4d_command.specs.declared.sessions.RunSession.{RunSession}
use Rattle.s4d.specs.Opening.{HoldsAt}
use Rattle.s4d.specs.Running.{HasFiles, IsSavedIn, IsUnwritten, LeavesDrive, RunsSessions, SaysUnrun}
use Rattle.image_commands.proofs.Fronts.{if_ok_with}
use Rattle.s4d.proofs.Ends.{if_err_with}
use Rattle.s4d.proofs.Left.{kept_past}
use Rattle.s4d.proofs.Said.{unopened, unrun_on}
use Rattle.s4d.proofs.Settled.{left_for, saved_in, sessions_ran}
use Rattle.s4d.proofs.Zips.{zip_all, zip_when}
use Rattle.s4d.proofs.running.run_begun.Goals as goal

-- a session's file wasn't opened: what was made beside the image is removed
pub returns-in-Err-open_clients : goal.returns-in-Err-open_clients
returns-in-Err-open_clients g c =
    let contents = g.F.Files.contents in
    let beside = g.F.Files.is_beside c.in-Ok.place.beside in
    let b = contents c.place_apart.new.files in
    let d = contents c.open_clients.new.files in
    let e = contents c.leave.new.files in
    let kept : (path : List ℕ) → IsKeptOrLeft (IsBeside g.F.Files.leads g.F.Files.reserves c.args.begun.path.now path) (contents c.args.files.now path) (e path) = λ path.
    kept_past (beside path) _ (b path) (e path) (c.place_apart.ensures.kept path) (c.in-Ok.ensures.anew path)
    (λ not. Keeps-trans (b path) (d path) (e path) (c.in-Err-open_clients.ensures.kept path) (c.leave.ensures.others path not)) in
    record {
      left = tt;
      apart = tt;
      others = tt;
      unsaved = λ path unwritten. kept path;
      unserved = λ unserved path. kept path;
      fault = λ known. unopened known c.args.begun.path.now c.args.sessions.now c.in-Err-open_clients.fault c.in-Err-open_clients.ensures.fault;
    }

-- the sessions of the line are those of the clients, and the image's place has the bytes that were put there
pub returns : goal.returns
returns g c =
    let base = g.J.Naming.base in
    let clock : ClockFields = record { start = c.args.begun.manner.start; tick = c.args.begun.manner.tick } in
    let reserve = g.J.Running.reserve in
    let moments = g.J.Running.moments in
    let upkeep = c.args.begun.manner.upkeep in
    let law = c.a_run_is_what_was_asked.ensures in
    let contents = g.F.Files.contents in
    let path = c.args.begun.path.now in
    let sessions = c.args.sessions.now in
    let beside = g.F.Files.is_beside c.in-Ok.place.beside in
    let a = contents c.args.files.now in
    let b = contents c.place_apart.new.files in
    let d = contents c.open_clients.new.files in
    let e = contents c.finish_all-are_there.new.files in
    let f = contents c.put_saved.new.files in
    let clients = c.in-Ok-open_clients.clients in
    let served = c.serve_named-served.result.0 in
    let saved = c.serve_named-served.result.1 in
    let left = c.serve_named-served.ensures.left in
    let are_ended = c.tell_sessions-are_ended.result in
    let are_there = c.finish_all-are_there.result in
    let ended = are_ended && are_there in
    let result = c.put_saved.result in
    let opens = HoldsAt g.F.Files.writes g.F.Writer.Write.contents in
    let remaining = g.F.Reader.Read.remaining in
    let written = g.F.Writer.Write.contents in
    let same : c.in-Ok.place.path.now ≡ path = c.in-Ok.ensures.path in
    let Kept : List ℕ → Type 0 = λ other. IsKeptOrLeft (IsBeside g.F.Files.leads g.F.Files.reserves path other) (a other) (f other) in
    let kept : (other : List ℕ) → IsUnwritten g.F.Files.apart sessions other → (beside other ≡ false → Keeps (e other) (f other)) → Kept other = λ other unwritten last.
    kept_past (beside other) _ (b other) (f other) (c.place_apart.ensures.kept other) (c.in-Ok.ensures.anew other)
    (λ not. Keeps-trans (b other) (d other) (f other) (c.in-Ok-open_clients.ensures.others other unwritten)
    (Keeps-trans (d other) (e other) (f other) (c.finish_all-are_there.ensures.others other unwritten) (last not))) in
    let count : length served.items ≡ length clients.items = omega (arith, c.serve_named-served.ensures.count, clients.ok.0, served.ok.0) in
    let asked_count : length served.items ≡ length sessions = omega (arith, c.serve_named-served.ensures.count, c.in-Ok-open_clients.ensures.count, served.ok.0) in
    let ends = subst (λ xs. IsTrue are_ended ↔ All (λ x. x.outcome ≡ Served Ended) xs) c.as_slice.ensures.value c.tell_sessions-are_ended.ensures.ended in
    let asked = zip_all (λ (s : RunSession). Keeps (a s.input.now) (b s.input.now))
    (λ s x. (x.role ≡ s.role) × HasFiles opens b s (remaining x.reader.reader) (written x.writer.writer))
    (λ s x. (x.role ≡ s.role) × HasFiles opens a s (remaining x.reader.reader) (written x.writer.writer))
    (λ s x known first. (first.0, record { readable = Keeps-trans _ _ _ known first.1.readable; opened = first.1.opened; empty = first.1.empty }))
    sessions clients.items c.in-Ok.ensures.inputs c.in-Ok-open_clients.ensures.asked in
    let there = zip_when (λ s x. Keeps (written x.writer.writer) (e s.output.now)) are_there sessions served.items asked_count
    (subst (λ xs. IsTrue are_there → AllZip (λ s x. Keeps (written x.writer.writer) (e s.output.now)) sessions xs) c.as_slice-2.ensures.value c.finish_all-are_there.ensures.left) in
    let opened : base.clock ≡ c.args.begun.opened.timeline.clock = ap (λ (b : Base). b.clock) (sym c.requires.base) in
    let start = c.requires.start in
    let within : base.clock ≤ clock.start = omega (arith, opened, start) in
    let Leaves : Option (List ℕ) → Bool → Type 0 = λ has is_ended. LeavesDrive base (RunsSessions base reserve moments clock upkeep opens a f sessions is_ended) (IsSavedIn has) in
    let leaves : (has : Option (List ℕ)) → All (λ s. Keeps (e s.output.now) (f s.output.now)) sessions → MatchResult saved (λ bytes. AreKnown has bytes.items) (λ _. ⊥) → Leaves has ended = λ has on holds.
    left_for base _ (RunsSessions base reserve moments clock upkeep opens a f sessions ended) _ (IsSavedIn has) left
    (λ are. subst (λ (u : Bool). RunsSessions base reserve moments clock u opens a f sessions ended left.drive) c.requires.upkeep
    (sessions_ran _ _ _ _ base g.J.Running.reserve g.J.Running.begins moments g.J.Running.has_upkeep opens a f are_there left.drive clock c.requires.moments sessions clients.items served.items are_ended asked count are
    (zip_all (λ (s : RunSession). Keeps (e s.output.now) (f s.output.now)) (λ s x. IsTrue are_there → Keeps (written x.writer.writer) (e s.output.now))
    (λ s x. IsTrue are_there → Keeps (written x.writer.writer) (f s.output.now)) (λ s x last so_far is. Keeps-trans _ _ _ (so_far is) last) sessions served.items on there)
    ends c.requires.begins law.changes law.clock within))
    (λ spelled. saved_in (λ bytes. bytes.items) saved has left.drive holds spelled) in
    record {
      left = if_ok_with result
          (λ ran holds on. subst (λ is_ended. Leaves (f path) is_ended) (sym holds.0)
          (leaves (f path) (λ k s lt. on (get_or sessions k s).output.now (subst (λ p. g.F.Files.apart p (get_or sessions k s).output.now) (sym same) (c.in-Ok.ensures.image k s lt)) (c.in-Ok.ensures.beside k s lt))
          (subst (λ p. MatchResult saved (λ bytes. AreKnown (f p) bytes.items) (λ _. ⊥)) same holds.1)))
          c.put_saved.ensures.saved c.put_saved.ensures.elsewhere;
      apart = on_ok_weaker result (λ _. c.in-Ok.ensures.apart) c.put_saved.ensures.elsewhere;
      others = on_ok_weaker result (λ on other from unwritten. kept other unwritten (λ not. on other (subst (λ p. g.F.Files.apart p other) (sym same) from) not)) c.put_saved.ensures.elsewhere;
      unsaved = on_err_weaker result (λ on other unwritten. kept other unwritten (λ not. on other not)) c.put_saved.ensures.others;
      unserved = IfErr-weaker result _ _ (λ fault never unserved. absurd (never unserved)) c.put_saved.ensures.unsaved;
      fault = if_err_with result
          (λ fault says on known. unrun_on known path sessions (λ has. MatchResult saved (λ bytes. AreKnown has bytes.items) (λ _. ⊥)) (λ has. (is_ended : Bool) × Leaves has is_ended) f
          (λ has holds. (ended, leaves has (λ k s lt. on (get_or sessions k s).output.now (c.in-Ok.ensures.beside k s lt)) holds)) fault
          (subst (λ p. SaysUnrun known p sessions (λ has. MatchResult saved (λ bytes. AreKnown has bytes.items) (λ _. ⊥)) f fault) same (says known sessions)))
          c.put_saved.ensures.fault c.put_saved.ensures.others;
    }
