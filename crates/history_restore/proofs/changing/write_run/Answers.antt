use Rattle.std.proofs.Common.{◌≡◌, ◌∙◌, ◌-◌, ℕ, List, [], ◌∷◌, OnOk, refl, subst}
use Rattle.s4_types.specs.declared.changes.Change.TheVariants as change
use Rattle.s4_types.specs.declared.requests.Request.TheVariants as request
use Rattle.s4_types.specs.declared.requests.ObjectRequest.TheVariants as object_request
use Rattle.s4_model.specs.Effect.{effect}
use Rattle.s4_model.specs.Refusals.{present}
use Rattle.s4_model.specs.Step.{part}
use Rattle.drive.specs.Fields.{state_in}
use Rattle.history_restore.specs.Asking.{AsksFor}
use Rattle.history_restore.specs.Content.{content_of}
use Rattle.history_restore.proofs.Asked.{content_granted, next_granted}
use Rattle.history_restore.proofs.Planned.{asked_one}
use Rattle.history_restore.proofs.changing.write_run.Goals as goal

pub returns-clause-content : goal.returns-clause-content
returns-clause-content g c =
    let s = state_in c.args.drive.now in
    let later = state_in c.ask.new.drive in
    let o = c.args.object in
    let run = c.args.run in
    let new : List ℕ = c.in-Ok.bytes in
    let is : new ≡ part c.args.bytes.now run.offset (run.end - run.offset) = c.in-Ok.ensures ∙ c.part-new.ensures in
    subst (λ (b : List ℕ). OnOk c.ask.result (content_of (present later o) ≡ content_of (effect (change.Write o run.offset b) 0 (present s o)))) is
    (content_granted c.ask.result s later (request.Update (object_request.Write o run.offset new)) (change.Write o run.offset new) refl c.ask.ensures.granted)

pub returns-clause-next : goal.returns-clause-next
returns-clause-next g c =
    let o = c.args.object in
    let offset = c.args.run.offset in
    next_granted c.ask.result (state_in c.args.drive.now) (state_in c.ask.new.drive) (request.Update (object_request.Write o offset c.in-Ok.bytes)) (change.Write o offset c.in-Ok.bytes) refl c.ask.ensures.granted

pub returns-clause-asked : goal.returns-clause-asked
returns-clause-asked g c =
    let o = c.args.object in
    let run = c.args.run in
    let new : List ℕ = c.in-Ok.bytes in
    let is : new ≡ part c.args.bytes.now run.offset (run.end - run.offset) = c.in-Ok.ensures ∙ c.part-new.ensures in
    subst (λ (b : List ℕ). AsksFor c.args.drive.now c.args.now (change.Write o run.offset b ∷ []) c.ask.result c.ask.new.drive) is
    (asked_one c.ask.result c.args.drive.now c.ask.new.drive c.args.now (request.Update (object_request.Write o run.offset new)) (change.Write o run.offset new) refl c.ask.ensures.stored c.ask.ensures.lacks c.ask.ensures.moved c.ask.ensures.dated)
