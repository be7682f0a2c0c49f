use Rattle.std.proofs.Common.{◌≡◌, ℕ, Option, OnOk, refl, sym, subst}
use Rattle.s4_types.specs.declared.changes.Change.TheVariants as change
use Rattle.s4_types.specs.declared.requests.Request.TheVariants as request
use Rattle.s4_types.specs.declared.requests.ObjectRequest.TheVariants as object_request
use Rattle.s4_model.specs.Refusals.{present}
use Rattle.drive.specs.Fields.{state_in}
use Rattle.history_restore.specs.Asking.{AsksFor}
use Rattle.history_restore.specs.Content.{content_of}
use Rattle.history_restore.specs.Plans.{cut_by, cut_changes}
use Rattle.history_restore.proofs.Asked.{content_granted, next_granted}
use Rattle.history_restore.proofs.Planned.{asked_one}
use Rattle.history_restore.proofs.changing.cut.Goals as goal

pub returns-in-Some-clause-content : goal.returns-in-Some-clause-content
returns-in-Some-clause-content g c =
    let s = state_in c.args.drive.now in
    let later = state_in c.ask.new.drive in
    let o = c.args.object in
    let n = c.in-Some.size in
    subst (λ (x : Option ℕ). OnOk c.ask.result (content_of (present later o) ≡ content_of (cut_by x o 0 (present s o)))) (sym c.in-Some.is) (content_granted c.ask.result s later (request.Update (object_request.Truncate o n)) (change.Truncate o n) refl c.ask.ensures.granted)

pub returns-in-Some-clause-next : goal.returns-in-Some-clause-next
returns-in-Some-clause-next g c =
    next_granted c.ask.result (state_in c.args.drive.now) (state_in c.ask.new.drive) (request.Update (object_request.Truncate c.args.object c.in-Some.size)) (change.Truncate c.args.object c.in-Some.size) refl c.ask.ensures.granted

pub returns-in-Some-clause-asked : goal.returns-in-Some-clause-asked
returns-in-Some-clause-asked g c =
    let o = c.args.object in
    let n = c.in-Some.size in
    subst (λ (x : Option ℕ). AsksFor c.args.drive.now c.args.now (cut_changes o x) c.ask.result c.ask.new.drive) (sym c.in-Some.is)
    (asked_one c.ask.result c.args.drive.now c.ask.new.drive c.args.now (request.Update (object_request.Truncate o n)) (change.Truncate o n) refl c.ask.ensures.stored c.ask.ensures.lacks c.ask.ensures.moved c.ask.ensures.dated)
