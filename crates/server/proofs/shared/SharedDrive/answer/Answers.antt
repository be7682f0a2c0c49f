use Rattle.std.proofs.Common.{◌≡◌, ◌+◌, ℕ, Bool, ap, ◌∙◌, cond, subst, sym}
use Rattle.s4_types.specs.declared.requests.Role.{Role}
use Rattle.segment_word.specs.AcceptViews.{count_of}
use Rattle.drive.specs.Fields.{history_of, state_in}
use Rattle.drive.specs.Refusing.{RefusesLeaving}
use Rattle.server.specs.Reserve.{least_of}
use Rattle.server.specs.Accounts.{BookFields}
use Rattle.server.specs.Drawing.{MayGoOn}
use Rattle.server.specs.Sequence.{HasCome, IsAnswered}
use Rattle.server.proofs.Sequence.{come_answered, drawn_more, next_count}
use Rattle.server.proofs.Sharing.{seen_after, shared_answer, shared_step}
use Rattle.server.proofs.Summing.{accepted_more}
use Rattle.server.proofs.shared.SharedDrive.answer.Goals as goal

-- a request more was answered, and is on the books
pub invariant_of-self : goal.invariant_of-self
invariant_of-self g c =
    let held = c.self.invariant in
    let inside = c.self.inside in
    let asked = c.request_leaving-reply in
    let draw = c.draw-now in
    let law = c.histories_go_on_record_by_record.ensures in
    let books = inside.books in
    let May = MayGoOn g.C.Clock.draws g.J.Running.moments in
    let Comes : BookFields → Type 0 = λ b. HasCome g.J.Running.begins (May draw.new.self) g.J.Running.has_upkeep b.requests b.changes asked.new.self in
    let come = come_answered g.J.Running.begins (May inside.clock) (May draw.new.self) g.J.Running.has_upkeep books.requests books.changes inside.drive asked.new.self
    c.args.session.now.told.seat c.args.session.now.role c.args.request draw.result asked.result (λ drawn. drawn_more g.C.Clock.draws g.J.Running.moments inside.clock draw.new.self draw.result drawn draw.ensures) held.0
    (record { step = asked.ensures.step; stored = asked.ensures.stored; owners = asked.ensures.owners }) in
    let come' = subst (λ b. HasCome g.J.Running.begins (May draw.new.self) g.J.Running.has_upkeep (books.requests + 1) (books.changes + cond b 1 0) asked.new.self) (sym c.accepts-is_accepted.ensures) come in
    let more = accepted_more law.by_moments law.by_changes (history_of inside.drive) (history_of asked.new.self) c.args.session.now.role c.args.request draw.result asked.result asked.ensures.step in
    let more' : count_of asked.new.self.ledger ≡ count_of inside.drive.ledger + c.number_of-more.result =
    subst (λ (n : ℕ). count_of asked.new.self.ledger ≡ count_of inside.drive.ledger + n) (sym c.number_of-more.ensures)
    (subst (λ (b : Bool). count_of asked.new.self.ledger ≡ count_of inside.drive.ledger + cond b 1 0) (sym c.accepts-is_accepted.ensures) more) in (
      subst Comes (sym c.count.ensures.books) come',
      next_count (count_of inside.drive.ledger) (count_of asked.new.self.ledger) inside.accepted c.saturating_add-self-inside.result c.number_of-more.result held.1 more' c.saturating_add-self-inside.ensures,
    )

pub returns-clause-step : goal.returns-clause-step
returns-clause-step g c =
    let inside = c.self.inside in
    let asked = c.request_leaving-reply in
    let draw = c.draw-now in
    let session = c.args.session.now in
    let rules = c.rules.ensures in
    let one : IsAnswered inside.drive session.told.seat session.role c.args.request draw.result asked.result asked.new.self = record { step = asked.ensures.step; stored = asked.ensures.stored; owners = asked.ensures.owners } in
    let least : c.least_of-least.result ≡ least_of g.J.Running.reserve (state_in inside.drive) session.role c.args.request =
    c.least_of-least.ensures
    ∙ ap (λ (n : ℕ). least_of n (state_in inside.drive) c.role.result c.args.request) c.blocks-2.ensures
    ∙ ap (λ (r : Role). least_of g.J.Running.reserve (state_in inside.drive) r c.args.request) c.role.ensures in
    let step = shared_step g.J.Naming.base g.J.Running.reserve g.J.Naming.frames inside.drive asked.new.self session asked.new.session c.args.request draw.result asked.result
    rules.base rules.decodes rules.frames rules.sound rules.store rules.past rules.unborn asked.ensures.before one (subst (λ (n : ℕ). RefusesLeaving n inside.drive session.role c.args.request draw.result asked.result asked.new.self) least asked.ensures.refused) asked.ensures.memory asked.ensures.session asked.ensures.after in
    shared_answer g.C.Clock.draws g.J.Running.begins g.J.Running.moments g.J.Running.has_upkeep inside.books.requests inside.books.changes c.args.part.now.requests g.J.Naming.base g.J.Running.reserve inside.clock draw.new.self draw.result session asked.new.session c.args.request asked.result inside.drive
    c.self.invariant.0 draw.ensures c.count.ensures.bound step

pub returns-clause-seen : goal.returns-clause-seen
returns-clause-seen g c = seen_after c.request_leaving-reply.result c.request_leaving-reply.new.self.ledger c.args.session.now c.request_leaving-reply.new.session c.request_leaving-reply.ensures.session
