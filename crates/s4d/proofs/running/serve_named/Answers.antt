use Rattle.std.proofs.Common.{◌≡◌, ◌<◌, ◌+◌, ◌∙◌, ◌^◌, ℕ, IfOk, List, ap, arith, get_or, length, subst, sym}
use Rattle.drive.specs.Fields.{DriveFields}
use Rattle.segment_table.specs.Rules.{HasFramesInOrder}
use Rattle.server.specs.Accounts.{PartFields}
use Rattle.server.specs.Attending.{AreServed, IsAttendedClient}
use Rattle.server.specs.declared.running.Client.{Client}
use Rattle.verifier.specs.Saved.{SpellsSaved}
use Rattle.s4d.proofs.Given.{are_served, given_all, given_parts, written_over}
use Rattle.s4d.proofs.Settled.{parts_served}
use Rattle.s4d.proofs.running.serve_named.Goals as goal

-- each client has got its part
pub serve_all-served-requires-clause-parts : goal.serve_all-served-requires-clause-parts
serve_all-served-requires-clause-parts g c κs within =
    let before = c.args.clients in
    let given = c.with_parts-clients.result in
    given_parts before.items given.items (omega (arith, c.with_parts-clients.ensures.count, before.ok.0, given.ok.0)) c.with_parts-clients.ensures.given

pub serve_all-served-requires-clause-readers : goal.serve_all-served-requires-clause-readers
serve_all-served-requires-clause-readers g c κs within =
    let before = c.args.clients in
    let given = c.with_parts-clients.result in
    let A : Type 0 = Client g.row.J.Denot g.row.S.Denot g.row.W.Denot in
    given_all (λ (x : A). g.S.Source.failures x.reader + 1 < 2 ^ 64) (λ x fits. fits) before.items given.items (omega (arith, c.with_parts-clients.ensures.count, before.ok.0, given.ok.0)) c.with_parts-clients.ensures.given c.requires.readers

pub serve_all-served-requires-clause-writers : goal.serve_all-served-requires-clause-writers
serve_all-served-requires-clause-writers g c κs within =
    let before = c.args.clients in
    let given = c.with_parts-clients.result in
    let A : Type 0 = Client g.row.J.Denot g.row.S.Denot g.row.W.Denot in
    given_all (λ (x : A). g.W.Sink.failures x.writer + 1 < 2 ^ 64) (λ x fits. fits) before.items given.items (omega (arith, c.with_parts-clients.ensures.count, before.ok.0, given.ok.0)) c.with_parts-clients.ensures.given c.requires.writers

-- the moments that are drawn are those of the manner
pub new-shared-requires-clause-moments : goal.new-shared-requires-clause-moments
new-shared-requires-clause-moments g c moments later drawn = c.requires.ticks moments (c.new-clock.ensures.later moments later drawn)

-- the rest and what the clients have are all parts
pub settle-drive-requires : goal.settle-drive-requires
settle-drive-requires g c =
    let A : Type 0 = Client g.row.J.Denot g.row.S.Denot g.row.W.Denot in
    let given : List A = c.with_parts-clients.result.items in
    let served : List A = c.serve_all-served.result.items in
    let many = c.as_mut_slice.ensures.len in
    let given_count = c.with_parts-clients.ensures.count in
    let served_count = c.serve_all-served.ensures.count in
    let size : length c.as_mut_slice.result.now ≡ length given = omega (arith, many, served_count, c.with_parts-clients.result.ok.0) in
    let Attend : List A → List A → Type 0 = λ xs ys. (i : ℕ) (d : A) → i < length given → IsAttendedClient g.S.Source.remaining g.W.Sink.passed g.S.Source.failures g.W.Sink.failures g.J.Naming.base g.J.Running.reserve g.J.Running.moments (get_or xs i d) (get_or ys i d) in
    let here : Attend given served = λ i d lt. c.serve_all-served.ensures.attended i d (omega (arith, lt, c.with_parts-clients.result.ok.0)) in
    let parts = parts_served _ _ _ _ g.J.Naming.base g.J.Running.reserve g.J.Running.begins g.J.Running.moments g.J.Running.has_upkeep given c.as_mut_slice.result.now size
    (subst (λ (ys : List A). Attend given ys) (sym c.as_mut_slice.ensures.value) here) in
    let rest = ap (λ (p : PartFields). p.parts) c.with_parts-clients.ensures.rest in
    let first = ap (λ (p : PartFields). p.parts) c.new-shared.ensures.part in
    let whole = c.requires.parts.1 in
    let few = c.requires.count in
    omega (arith, parts, rest, first, whole, few, given_count, c.with_parts-clients.result.ok.0)

-- the drive that is left has the frames of its own table
pub returns-clause-left : goal.returns-clause-left
returns-clause-left g c =
    let A : Type 0 = Client g.row.J.Denot g.row.S.Denot g.row.W.Denot in
    let clients : List A = c.args.clients.items in
    let given : List A = c.with_parts-clients.result.items in
    let served : List A = c.serve_all-served.result.items in
    let after : List A = c.settle-drive.new.clients in
    let many = c.as_mut_slice.ensures.len in
    let given_count = c.with_parts-clients.ensures.count in
    let served_count = c.serve_all-served.ensures.count in
    let sound = c.args.clients.ok.0 in
    let last = written_over c.serve_all-served.result.len after served (c.settle-drive.auto.clients ∙ many) in
    let size : length c.as_mut_slice.result.now ≡ length clients = omega (arith, many, given_count, served_count, sound) in
    let Attend : List A → List A → Type 0 = λ xs ys. (i : ℕ) (d : A) → i < length clients → IsAttendedClient g.S.Source.remaining g.W.Sink.passed g.S.Source.failures g.W.Sink.failures g.J.Naming.base g.J.Running.reserve g.J.Running.moments (get_or xs i d) (get_or ys i d) in
    let here : Attend given served = λ i d lt. c.serve_all-served.ensures.attended i d (omega (arith, lt, given_count, sound)) in
    let attended = subst (λ (ys : List A). Attend given ys) (sym c.as_mut_slice.ensures.value) here in
    let rest = c.with_parts-clients.ensures.rest in
    let first = c.new-shared.ensures.part in
    let are = are_served _ _ _ _ g.J.Naming.base g.J.Running.reserve g.J.Running.begins g.J.Running.moments g.J.Running.has_upkeep clients given c.as_mut_slice.result.now after c.with_parts-clients.new.rest c.settle-drive.result
    (ap (λ (p : PartFields). p.requests) rest ∙ ap (λ (p : PartFields). p.requests) first) (ap (λ (p : PartFields). p.changes) rest ∙ ap (λ (p : PartFields). p.changes) first)
    size c.with_parts-clients.ensures.given attended (λ i d lt. c.settle-drive.ensures.settled i d (omega (arith, lt, size))) c.settle-drive.ensures.come in
    let Are : List A → DriveFields → Type 0 = λ xs d. AreServed g.S.Source.remaining g.W.Sink.passed g.S.Source.failures g.W.Sink.failures g.J.Naming.base g.J.Running.reserve g.J.Running.begins g.J.Running.moments g.J.Running.has_upkeep clients xs d in
    let drive = c.save-saved.new.drive in
    let rules = c.rules.ensures in
    record {
      drive = drive;
      there = record {
        begins = rules.base;
        decodes = rules.decodes;
        frames = subst (λ t. HasFramesInOrder t drive.store.table) (sym rules.frames.table) rules.frames;
        sound = rules.sound;
        store = rules.store;
        past = rules.past;
        unborn = rules.unborn;
      };
      settled = subst (λ (xs : List A). Are xs drive) (sym last) (subst (λ (d : DriveFields). Are after d) (sym c.save-saved.ensures.same) are);
      spelled = subst (λ (d : DriveFields). IfOk c.save-saved.result (λ bytes. SpellsSaved d bytes.items)) (sym c.save-saved.ensures.same) c.save-saved.ensures.saved;
    }
