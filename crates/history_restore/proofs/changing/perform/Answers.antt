use Rattle.std.proofs.Common.{◌≡◌, ◌∙◌, ℕ, OnOk, Ok, Err, refl, sym, ap, subst}
use Rattle.std.proofs.lemmas.Result.{err_from_is_err_and, on_ok_weaker}
use Rattle.s4_types.specs.declared.changes.Change.TheVariants as change
use Rattle.s4_types.specs.declared.requests.Request.TheVariants as request
use Rattle.s4_types.specs.declared.requests.ObjectRequest.TheVariants as object_request
use Rattle.s4_model.specs.Refusals.{present}
use Rattle.drive.specs.Fields.{state_in}
use Rattle.history_restore.specs.Asking.{AsksFor}
use Rattle.history_restore.specs.declared.plans.Plan.{Plan}
use Rattle.history_restore.specs.Content.{content_of}
use Rattle.history_restore.specs.Plans.{changes_by, number_by, next_by_plan, turned}
use Rattle.history_restore.proofs.Contents.{any_remade}
use Rattle.history_restore.specs.declared.plans.Plan.TheVariants.{Remake}
use Rattle.s4_types.specs.declared.versions.Version.TheVariants.{Absent}
use Rattle.history_restore.proofs.Planned.{asked_one}
use Rattle.history_restore.proofs.changing.perform.Goals as goal

pub returns-in_ok-ask-in-Delete-clause-content : goal.returns-in_ok-ask-in-Delete-clause-content
returns-in_ok-ask-in-Delete-clause-content g c =
    let s = state_in c.args.drive.now in
    let later = state_in c.ask.new.drive in
    let o = c.args.object in
    subst (λ (p : Plan). content_of (present later (number_by p s.next o)) ≡ content_of (turned c.args.before.now c.args.runs.now p o 0 (present s o))) (sym c.in-Delete.is) (c.in_ok-ask-in-Delete.ensures.granted (change.Delete o) refl).content

pub returns-in_ok-ask-in-Delete-clause-next : goal.returns-in_ok-ask-in-Delete-clause-next
returns-in_ok-ask-in-Delete-clause-next g c =
    let s = state_in c.args.drive.now in
    let later = state_in c.ask.new.drive in
    subst (λ (p : Plan). later.next ≡ next_by_plan p s.next) (sym c.in-Delete.is) (c.in_ok-ask-in-Delete.ensures.granted (change.Delete c.args.object) refl).next

pub returns-in-Remake-clause-content : goal.returns-in-Remake-clause-content
returns-in-Remake-clause-content g c =
    let s = state_in c.args.drive.now in
    let later = state_in c.remake.new.drive in
    let o = c.args.object in
    let before = c.args.before.now in
    let changes = c.in-Remake.changes in
    subst (λ (p : Plan). OnOk c.remake.result (content_of (present later (number_by p s.next o)) ≡ content_of (turned before c.args.runs.now p o 0 (present s o)))) (sym c.in-Remake.is)
    (on_ok_weaker c.remake.result (λ (done : content_of (present later s.next) ≡ content_of (turned before c.args.runs.now (Remake changes) 0 0 Absent)). done ∙ ap content_of (any_remade before c.args.runs.now changes 0 o Absent (present s o))) c.remake.ensures.content)

pub returns-in_ok-ask-in-Delete-clause-asked : goal.returns-in_ok-ask-in-Delete-clause-asked
returns-in_ok-ask-in-Delete-clause-asked g c =
    let d = c.args.drive.now in
    let d' = c.ask.new.drive in
    let o = c.args.object in
    subst (λ (p : Plan). AsksFor d c.args.now (changes_by c.args.before.now c.args.runs.now p (state_in d).next o) (Ok o) d') (sym c.in-Delete.is)
    (asked_one (Ok o) d d' c.args.now (request.Update (object_request.Delete o)) (change.Delete o) refl c.in_ok-ask-in-Delete.ensures.stored tt c.in_ok-ask-in-Delete.ensures.moved c.ask.ensures.dated)

pub returns-in_err-ask-in-Delete-clause-asked : goal.returns-in_err-ask-in-Delete-clause-asked
returns-in_err-ask-in-Delete-clause-asked g c =
    let p = err_from_is_err_and c.from_residual.result c.from_residual.ensures.1 in
    let d = c.args.drive.now in
    let d' = c.ask.new.drive in
    let o = c.args.object in
    let e = c.in_err-ask-in-Delete.field-0.0 in
    rw (p.1, p.2) (subst (λ (q : Plan). AsksFor {T = ℕ} d c.args.now (changes_by c.args.before.now c.args.runs.now q (state_in d).next o) (Err e) d') (sym c.in-Delete.is)
    (asked_one (Err e) d d' c.args.now (request.Update (object_request.Delete o)) (change.Delete o) refl tt c.in_err-ask-in-Delete.ensures.lacks tt c.ask.ensures.dated))
