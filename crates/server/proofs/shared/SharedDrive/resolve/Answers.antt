use Rattle.std.proofs.Common.{◌≡◌, ◌+◌, ◌∙◌, ap, arith, cond, subst, sym}
use Rattle.s4_types.specs.declared.requests.Request.TheVariants.{Query}
use Rattle.s4_types.specs.declared.requests.Question.TheVariants.{Read}
use Rattle.segment_word.specs.AcceptViews.{Told, count_of}
use Rattle.drive.specs.Fields.{SessionFields, history_of}
use Rattle.drive.specs.Answering.{reply_planned}
use Rattle.server.specs.Accounts.{BookFields}
use Rattle.server.specs.Drawing.{MayGoOn}
use Rattle.server.specs.Sequence.{HasCome}
use Rattle.server.proofs.Sequence.{come_answered, drawn_more}
use Rattle.server.proofs.Sharing.{planned_accepts, planned_answered, planned_told, shared_answer, shared_step}
use Rattle.server.proofs.Summing.{accepted_more}
use Rattle.server.proofs.shared.SharedDrive.resolve.Goals as goal

-- a Read more was answered, and is on the books
pub invariant_of-self : goal.invariant_of-self
invariant_of-self g c =
    let held = c.self.invariant in
    let inside = c.self.inside in
    let asked = c.resolve-planned in
    let draw = c.draw-now in
    let law = c.histories_go_on_record_by_record.ensures in
    let books = inside.books in
    let read = Query (Read c.args.object c.args.offset c.args.length c.args.at) in
    let session = c.args.session.now in
    let May = MayGoOn g.C.Clock.draws g.J.Running.moments in
    let Comes : BookFields → Type 0 = λ b. HasCome g.J.Running.begins (May draw.new.self) g.J.Running.has_upkeep b.requests b.changes asked.new.self in
    let come = come_answered g.J.Running.begins (May inside.clock) (May draw.new.self) g.J.Running.has_upkeep books.requests books.changes inside.drive asked.new.self
    session.told.seat session.role read draw.result (reply_planned asked.result) (λ drawn. drawn_more g.C.Clock.draws g.J.Running.moments inside.clock draw.new.self draw.result drawn draw.ensures) held.0
    (planned_answered asked.result inside.drive asked.new.self session.told.seat session.role read draw.result asked.ensures.step asked.ensures.store asked.ensures.ledger) in
    let none = planned_accepts asked.result in
    let come' = subst (λ b. HasCome g.J.Running.begins (May draw.new.self) g.J.Running.has_upkeep (books.requests + 1) (books.changes + cond b 1 0) asked.new.self) none come in
    let more = accepted_more law.by_moments law.by_changes (history_of inside.drive) (history_of asked.new.self) session.role read draw.result (reply_planned asked.result) asked.ensures.step in
    let more' : count_of asked.new.self.ledger ≡ count_of inside.drive.ledger + 0 = subst (λ b. count_of asked.new.self.ledger ≡ count_of inside.drive.ledger + cond b 1 0) none more in
    let same = held.1 in (
      subst Comes (sym c.count.ensures.books) come',
      omega (arith, same, more'),
    )

pub returns-clause-step : goal.returns-clause-step
returns-clause-step g c =
    let inside = c.self.inside in
    let asked = c.resolve-planned in
    let draw = c.draw-now in
    let read = Query (Read c.args.object c.args.offset c.args.length c.args.at) in
    let session = c.args.session.now in
    let rules = c.rules.ensures in
    let one = planned_answered asked.result inside.drive asked.new.self session.told.seat session.role read draw.result asked.ensures.step asked.ensures.store asked.ensures.ledger in
    let told = asked.ensures.session ∙ ap (λ (t : Told). record session { told = t }) (sym (planned_told asked.result asked.new.self.ledger session.told)) in
    let step = shared_step g.J.Naming.base g.J.Running.reserve g.J.Naming.frames inside.drive asked.new.self session asked.new.session read draw.result (reply_planned asked.result)
    rules.base rules.decodes rules.frames rules.sound rules.store rules.past rules.unborn asked.ensures.before one asked.ensures.refused asked.ensures.memory told asked.ensures.after in
    shared_answer g.C.Clock.draws g.J.Running.begins g.J.Running.moments g.J.Running.has_upkeep inside.books.requests inside.books.changes c.args.part.now.requests g.J.Naming.base g.J.Running.reserve inside.clock draw.new.self draw.result session asked.new.session read (reply_planned asked.result) inside.drive
    c.self.invariant.0 draw.ensures c.count.ensures.bound step

pub returns-clause-seen : goal.returns-clause-seen
returns-clause-seen g c = ap (λ (s : SessionFields). s.told.seen) c.resolve-planned.ensures.session
