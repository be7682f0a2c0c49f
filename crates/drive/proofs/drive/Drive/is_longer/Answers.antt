use Rattle.std.proofs.Common.{◌≡◌, ℕ, Option, unwrap_or, ltb, refl, sym, ap, subst, ◌∙◌}
use Rattle.std.specs.Prelude.{option_copied}
use Rattle.s4_types.specs.declared.requests.ObjectRequest.TheVariants.{Delete}
use Rattle.s4_model.specs.State.{State, state_of}
use Rattle.s4_model.specs.Refusals.{present, size_of}
use Rattle.segment_table.specs.Room.{log_of}
use Rattle.version_store.specs.Store.{StoreFields, fields_of}
use Rattle.drive.specs.Later.{HasSize}
use Rattle.drive.specs.Fields.{DriveFields, state_in}
use Rattle.drive.proofs.Judging.{size_asked}
use Rattle.drive.proofs.drive.Drive.is_longer.Goals as goal

pub returns : goal.returns
returns g c =
    let s : State = state_of c.self.inside.history.history in
    let store : StoreFields = fields_of log_of c.self.inside.store in
    let size : HasSize s (Delete c.args.object) c.size_of.result = size_asked c.what_changes_of_objects_rest_on.ensures.count c.what_changes_of_objects_rest_on.ensures.present s store c.self.inside.window c.self.inside.next c.args.object store.latest (option_copied c.present-found.result) (Delete c.args.object) c.size_of.result c.self.invariant.1 refl refl c.present-found.ensures c.size_of.ensures in
    subst (λ (d : DriveFields). ltb c.args.size c.unwrap_or-has.result ≡ ltb c.args.size (size_of (present (state_in d) c.args.object))) c.self.view_is
    (ap (λ (n : ℕ). ltb c.args.size n) (c.unwrap_or-has.ensures ∙ ap (λ (o : Option ℕ). unwrap_or o 0) (sym size)))
