use Rattle.std.proofs.Common.{ℕ, sym, ap, subst, ◌∙◌}
use Rattle.std.proofs.lemmas.Result.{err_from_is_err_and}
use Rattle.version_store.specs.Store.{IsStore}
use Rattle.drive.specs.Fields.{DriveFields, store_of}
use Rattle.segment_copier.specs.Gathering.{IsUnmade}
use Rattle.drive_compaction.proofs.Leaving.{IsOf, held_role, stays}
use Rattle.drive_compaction.proofs.emptying.leave.Goals as goal

-- the object of a held block has a row
pub returns-in_err-move_now-clause-refusal : goal.returns-in_err-move_now-clause-refusal
returns-in_err-move_now-clause-refusal g c =
    let p = err_from_is_err_and c.from_residual.result c.from_residual.ensures.1 in
    let d : DriveFields = c.args.drive.now in
    let is : IsOf d c.args.place c.in-Some.role.object = held_role d c.args.place c.in-Some.role (sym c.in-Some.is ∙ c.role.ensures.role) in
    let store : IsStore (store_of d) = subst (λ (x : DriveFields). IsStore (store_of x)) c.role.ensures.same c.rules.ensures.store in
    let why : IsUnmade d c.args.place.frame c.in-Some.role.object c.in_err-move_now.field-0.0 =
    subst (λ (f : ℕ). IsUnmade d f c.in-Some.role.object c.in_err-move_now.field-0.0) c.frame.ensures
    (subst (λ (x : DriveFields). IsUnmade x c.frame.result c.in-Some.role.object c.in_err-move_now.field-0.0) c.role.ensures.same c.in_err-move_now.ensures.refusal) in
    rw (p.1, p.2) (stays d c.move_now.new.drive c.args.place c.in-Some.role.object c.in_err-move_now.field-0.0 store is (c.in_err-move_now.ensures.unchanged ∙ ap store_of c.role.ensures.same) why)
