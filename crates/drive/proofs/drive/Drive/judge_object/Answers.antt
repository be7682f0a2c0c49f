use Rattle.std.proofs.Common.{◌≡◌, ◌+◌, max, ℕ, Some, None, refl, sym, ap, subst, ◌∙◌}
use Rattle.std.specs.Prelude.{option_copied}
use Rattle.std.proofs.lemmas.Result.{err_from_is_err_and}
use Rattle.s4_types.specs.declared.requests.Request.TheVariants.{Update}
use Rattle.s4_model.specs.State.{State, state_of, took}
use Rattle.s4_model.specs.Step.{change_of, stamp, accepted_record}
use Rattle.s4_model.specs.Sound.{IsSound}
use Rattle.drive.specs.Later.{later_refusal, HasSize, IsAllowed}
use Rattle.segment_table.specs.Room.{log_of}
use Rattle.version_store.specs.Store.{StoreFields, fields_of}
use Rattle.version_store.specs.Versions.{inode_in}
use Rattle.version_store.specs.Taking.{Takes}
use Rattle.drive.specs.Fields.{DriveFields, state_in, store_of}
use Rattle.drive.specs.Answering.{size_by}
use Rattle.drive.proofs.Judging.{size_asked, can_take, admin_is_later}
use Rattle.drive.proofs.Unversioned.{sound_took}
use Rattle.drive.proofs.drive.Drive.judge_object.Goals as goal

pub returns-in_err-change-clause-refused : goal.returns-in_err-change-clause-refused
returns-in_err-change-clause-refused g c =
    let s : State = state_of c.self.inside.history.history in
    let store : StoreFields = fields_of log_of c.self.inside.store in
    let kept = c.self.invariant.1 in
    let size : HasSize s c.args.update c.size_of.result = size_asked c.what_changes_of_objects_rest_on.ensures.count c.what_changes_of_objects_rest_on.ensures.present s store c.self.inside.window c.self.inside.next c.object_of-object.result store.latest (option_copied c.present-found.result) c.args.update c.size_of.result kept c.object_of-object.ensures refl c.present-found.ensures c.size_of.ensures in
    let judged = c.in_err-change.ensures.judged s (sym (c.clock-clock.ensures ∙ kept.window.clock)) (sym kept.next) size in
    let p = err_from_is_err_and c.from_residual.result c.from_residual.ensures.1 in
    rw (p.1, p.2) (subst (λ (d : DriveFields). later_refusal (state_in d) (Update c.args.update) ≡ Some c.in_err-change.field-0.0) c.self.view_is judged)

pub returns-clause-free : goal.returns-clause-free
returns-clause-free g c =
    let s : State = state_of c.self.inside.history.history in
    let store : StoreFields = fields_of log_of c.self.inside.store in
    let kept = c.self.invariant.1 in
    let size : HasSize s c.args.update c.size_of.result = size_asked c.what_changes_of_objects_rest_on.ensures.count c.what_changes_of_objects_rest_on.ensures.present s store c.self.inside.window c.self.inside.next c.object_of-object.result store.latest (option_copied c.present-found.result) c.args.update c.size_of.result kept c.object_of-object.ensures refl c.present-found.ensures c.size_of.ensures in
    let judged = c.in_ok-change.ensures.judged s (sym (c.clock-clock.ensures ∙ kept.window.clock)) (sym kept.next) size in
    subst (λ (d : DriveFields). later_refusal (state_in d) (Update c.args.update) ≡ None) c.self.view_is judged.0

pub returns-clause-asked : goal.returns-clause-asked
returns-clause-asked g c =
    let s : State = state_of c.self.inside.history.history in
    let store : StoreFields = fields_of log_of c.self.inside.store in
    let kept = c.self.invariant.1 in
    let size : HasSize s c.args.update c.size_of.result = size_asked c.what_changes_of_objects_rest_on.ensures.count c.what_changes_of_objects_rest_on.ensures.present s store c.self.inside.window c.self.inside.next c.object_of-object.result store.latest (option_copied c.present-found.result) c.args.update c.size_of.result kept c.object_of-object.ensures refl c.present-found.ensures c.size_of.ensures in
    let judged = c.in_ok-change.ensures.judged s (sym (c.clock-clock.ensures ∙ kept.window.clock)) (sym kept.next) size in
    subst (λ (d : DriveFields). change_of (state_in d) (Update c.args.update) ≡ Some c.in_ok-change.change) c.self.view_is judged.1

pub returns-clause-takes : goal.returns-clause-takes
returns-clause-takes g c =
    let s : State = state_of c.self.inside.history.history in
    let store : StoreFields = fields_of log_of c.self.inside.store in
    let found : (option_copied c.present-found.result) ≡ inode_in store c.object_of-object.result store.latest = c.present-found.ensures in
    let allowed : IsAllowed c.self.inside.next (size_by (option_copied c.present-found.result)) c.in_ok-change.change = subst (λ size. IsAllowed c.self.inside.next size c.in_ok-change.change) c.size_of.ensures c.in_ok-change.ensures.allowed in
    subst (λ (d : DriveFields). Takes (store_of d) c.in_ok-change.change) c.self.view_is
    (can_take c.what_changes_of_objects_rest_on.ensures.present s store c.self.inside.window c.self.inside.next c.object_of-object.result (option_copied c.present-found.result) c.in_ok-change.change c.self.invariant.1 found
    (c.in_ok-change.ensures.object ∙ sym c.object_of-object.ensures) c.in_ok-change.ensures.fits allowed)

pub returns-clause-moment : goal.returns-clause-moment
returns-clause-moment g c =
    subst (λ (d : DriveFields). c.moment_after-moment.result ≡ stamp (state_in d) c.args.now) c.self.view_is
    (c.moment_after-moment.ensures ∙ ap (λ (t : ℕ). max c.args.now (t + 1)) (c.clock-clock.ensures ∙ c.self.invariant.1.window.clock))

pub returns-clause-sound : goal.returns-clause-sound
returns-clause-sound g c =
    let s : State = state_of c.self.inside.history.history in
    let store : StoreFields = fields_of log_of c.self.inside.store in
    let kept = c.self.invariant.1 in
    let size : HasSize s c.args.update c.size_of.result = size_asked c.what_changes_of_objects_rest_on.ensures.count c.what_changes_of_objects_rest_on.ensures.present s store c.self.inside.window c.self.inside.next c.object_of-object.result store.latest (option_copied c.present-found.result) c.args.update c.size_of.result kept c.object_of-object.ensures refl c.present-found.ensures c.size_of.ensures in
    let judged = c.in_ok-change.ensures.judged s (sym (c.clock-clock.ensures ∙ kept.window.clock)) (sym kept.next) size in
    subst (λ (d : DriveFields). IsSound (took (state_in d) (accepted_record (state_in d) c.in_ok-change.change c.args.now))) c.self.view_is
    (sound_took c.what_changes_of_objects_rest_on.ensures.steps c.what_changes_of_objects_rest_on.ensures.by_changes c.self.inside.history.history (Update c.args.update) c.args.now c.in_ok-change.change kept.sound (admin_is_later s c.args.update c.requires.within ∙ judged.0) judged.1)
