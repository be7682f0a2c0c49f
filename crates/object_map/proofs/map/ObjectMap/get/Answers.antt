use Rattle.std.proofs.Common.{Option, Some, None, sym, ap, subst, ◌∙◌}
use Rattle.object_map.specs.declared.map.Kept.{Kept}
use Rattle.object_map.specs.Objects.{MapOf, IsKeptOf, unboxed, value_of}
use Rattle.object_map.proofs.Mapped.{kept_of, found_in_box, not_in_box}
use Rattle.object_map.proofs.map.ObjectMap.get.Goals as goal

pub returns-in_err-kept : goal.returns-in_err-kept
returns-in_err-kept g c =
    let objects = c.self.inside.objects.entries in
    let found : Option (Kept g.row.V.Denot) = None in
    rw (c.from_residual.ensures) (subst (λ (m : MapOf _). IsKeptOf m c.args.object found) c.self.view_is
    (kept_of (unboxed objects) c.args.object found (sym (not_in_box objects c.number.result c.in_err-kept.ensures.value) ∙ ap (value_of (unboxed objects)) c.number.ensures)))

pub returns : goal.returns
returns g c =
    let objects = c.self.inside.objects.entries in
    let found = Some c.deref.result.now in
    subst (λ (m : MapOf _). IsKeptOf m c.args.object found) c.self.view_is
    (kept_of (unboxed objects) c.args.object found (ap Some c.deref.ensures ∙ sym (found_in_box objects c.number.result c.in_ok-kept.kept.now c.in_ok-kept.ensures.value) ∙ ap (value_of (unboxed objects)) c.number.ensures))
