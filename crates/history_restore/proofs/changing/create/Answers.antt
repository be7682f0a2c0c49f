use Rattle.std.proofs.Common.{◌∙◌, ℕ, List, [], ◌∷◌, Ok, Err, refl, ap, subst}
use Rattle.std.proofs.lemmas.Result.{err_from_is_err_and}
use Rattle.s4_types.specs.declared.changes.Change.TheVariants as change
use Rattle.s4_types.specs.declared.requests.Request.TheVariants as request
use Rattle.s4_types.specs.declared.requests.ObjectRequest.TheVariants as object_request
use Rattle.drive.specs.Fields.{state_in}
use Rattle.history_restore.specs.Asking.{AsksFor}
use Rattle.history_restore.specs.Content.{holding}
use Rattle.history_restore.proofs.Planned.{asked_one}
use Rattle.history_restore.proofs.changing.create.Goals as goal

pub returns-clause-content : goal.returns-clause-content
returns-clause-content g c = (c.in_ok-ask.ensures.granted (change.Create (state_in c.args.drive.now).next c.in-Ok.attribute) refl).content ∙ ap (holding []) c.in-Ok.ensures

pub returns-clause-next : goal.returns-clause-next
returns-clause-next g c = (c.in_ok-ask.ensures.granted (change.Create (state_in c.args.drive.now).next c.in-Ok.attribute) refl).next

pub returns-clause-asked : goal.returns-clause-asked
returns-clause-asked g c =
    let d = c.args.drive.now in
    let next = (state_in d).next in
    subst (λ (a : List ℕ). AsksFor d c.args.now (change.Create next a ∷ []) (Ok c.next-number.result) c.ask.new.drive) c.in-Ok.ensures
    (asked_one (Ok c.next-number.result) d c.ask.new.drive c.args.now (request.Update (object_request.Create c.in-Ok.attribute)) (change.Create next c.in-Ok.attribute) refl c.in_ok-ask.ensures.stored tt c.in_ok-ask.ensures.moved c.ask.ensures.dated)

pub returns-in_err-ask-clause-asked : goal.returns-in_err-ask-clause-asked
returns-in_err-ask-clause-asked g c =
    let p = err_from_is_err_and c.from_residual.result c.from_residual.ensures.1 in
    let d = c.args.drive.now in
    let next = (state_in d).next in
    rw (p.1, p.2) (subst (λ (a : List ℕ). AsksFor d c.args.now (change.Create next a ∷ []) (Err c.in_err-ask.field-0.0) c.ask.new.drive) c.in-Ok.ensures
    (asked_one (Err c.in_err-ask.field-0.0) d c.ask.new.drive c.args.now (request.Update (object_request.Create c.in-Ok.attribute)) (change.Create next c.in-Ok.attribute) refl tt c.in_err-ask.ensures.lacks tt c.ask.ensures.dated))
