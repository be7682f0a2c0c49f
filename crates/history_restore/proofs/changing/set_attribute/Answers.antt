use Rattle.std.proofs.Common.{◌≡◌, ℕ, Bool, true, List, [], ◌∷◌, OnOk, refl, sym, subst}
use Rattle.s4_types.specs.declared.changes.Change.TheVariants as change
use Rattle.s4_types.specs.declared.requests.Request.TheVariants as request
use Rattle.s4_types.specs.declared.requests.ObjectRequest.TheVariants as object_request
use Rattle.s4_model.specs.Effect.{effect}
use Rattle.s4_model.specs.Refusals.{present}
use Rattle.drive.specs.Fields.{state_in}
use Rattle.history_restore.specs.Asking.{AsksFor}
use Rattle.history_restore.specs.Content.{content_of}
use Rattle.history_restore.specs.Plans.{attribute_by, attribute_changes}
use Rattle.history_restore.proofs.Asked.{content_granted, next_granted}
use Rattle.history_restore.proofs.Planned.{asked_one}
use Rattle.history_restore.proofs.changing.set_attribute.Goals as goal

pub returns-clause-content : goal.returns-clause-content
returns-clause-content g c =
    let s = state_in c.args.drive.now in
    let later = state_in c.ask.new.drive in
    let o = c.args.object in
    let new : List ℕ = c.in-Ok.attribute in
    let wanted : c.args.wanted ≡ true = c.if-not-wanted.false in
    subst (λ (w : Bool). OnOk c.ask.result (content_of (present later o) ≡ content_of (attribute_by c.args.attribute.now w o 0 (present s o)))) (sym wanted)
    (subst (λ (a : List ℕ). OnOk c.ask.result (content_of (present later o) ≡ content_of (effect (change.SetAttr o a) 0 (present s o)))) c.in-Ok.ensures
    (content_granted c.ask.result s later (request.Update (object_request.SetAttr o new)) (change.SetAttr o new) refl c.ask.ensures.granted))

pub returns-clause-next : goal.returns-clause-next
returns-clause-next g c =
    let o = c.args.object in
    next_granted c.ask.result (state_in c.args.drive.now) (state_in c.ask.new.drive) (request.Update (object_request.SetAttr o c.in-Ok.attribute)) (change.SetAttr o c.in-Ok.attribute) refl c.ask.ensures.granted

pub returns-clause-asked : goal.returns-clause-asked
returns-clause-asked g c =
    let d = c.args.drive.now in
    let d' = c.ask.new.drive in
    let o = c.args.object in
    let new : List ℕ = c.in-Ok.attribute in
    subst (λ (w : Bool). AsksFor d c.args.now (attribute_changes o c.args.attribute.now w) c.ask.result d') (sym c.if-not-wanted.false)
    (subst (λ (a : List ℕ). AsksFor d c.args.now (change.SetAttr o a ∷ []) c.ask.result d') c.in-Ok.ensures
    (asked_one c.ask.result d d' c.args.now (request.Update (object_request.SetAttr o new)) (change.SetAttr o new) refl c.ask.ensures.stored c.ask.ensures.lacks c.ask.ensures.moved c.ask.ensures.dated))
