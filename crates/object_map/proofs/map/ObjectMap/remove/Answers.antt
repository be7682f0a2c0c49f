use Rattle.std.proofs.Common.{◌≡◌, ℕ, subst}
use Rattle.object_map.specs.Objects.{MapOf, Removes, value_of, without_value, parts_of, unboxed}
use Rattle.object_map.proofs.Mapped.{removes, unboxed_without}
use Rattle.object_map.proofs.map.ObjectMap.remove.Goals as goal

pub returns : goal.returns
returns g c =
    let objects = unboxed c.self.inside.objects.entries in
    let after = unboxed c.take_out.new.map.entries in
    let gone : (q : ℕ) → value_of after q ≡ without_value (value_of objects) c.args.object q =
    subst (λ (o : ℕ). (q : ℕ) → value_of after q ≡ without_value (value_of objects) o q) c.number.ensures (unboxed_without c.self.inside.objects.entries c.take_out.new.map.entries c.number.result c.take_out.ensures) in
    subst (λ (m : MapOf _). Removes m c.args.object (parts_of after)) c.self.view_is (removes objects after c.args.object gone)
