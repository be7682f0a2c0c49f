use Rattle.std.proofs.Common.{◌≡◌, ◌+◌, ◌<◌, ◌^◌, Option, Some, None, IfSome, is_some, refl, sym, ap, subst, ◌∙◌}
use Rattle.std.specs.Box.{with_value as in_box}
use Rattle.object_map.specs.declared.map.Row.{Row}
use Rattle.object_map.specs.declared.map.Kept.{Kept}
use Rattle.object_map.specs.Objects.{MapOf, Puts, parts_of, unboxed, value_of}
use Rattle.object_map.specs.Rows.{row_of}
use Rattle.object_map.proofs.Mapped.{if_none, lent, row_found, value_found, found_in_box, not_in_box, put_at, puts_unboxed}
use Rattle.object_map.proofs.map.ObjectMap.change_in_place.Goals as goal

pub returns-in_err-found : goal.returns-in_err-found
returns-in_err-found g c =
    let objects = c.self.inside.objects.entries in
    let none = sym (not_in_box objects c.number.result c.in_err-found.ensures.value) in
    let row = row_found (unboxed objects) c.args.self.now c.args.object c.number.result None c.self.view_is c.number.ensures none in
    let value = value_found (unboxed objects) c.args.self.now c.args.object c.number.result None c.self.view_is c.number.ensures none in
    rw (c.from_residual.ensures) (
      (refl, λ w. if_none _ (row_of c.args.self.now.rows c.args.object) row, ap (λ m. parts_of (unboxed m.entries)) c.get_mut.follows.holds-at-none ∙ c.self.view_is),
      record { changed = tt; value = sym value; none = row },
    )

pub next_of-kept-requires : goal.next_of-kept-requires
next_of-kept-requires g c =
    let objects = c.self.inside.objects.entries in
    let there : Some c.deref_mut-kept.result.now ≡ value_of (unboxed objects) c.number.result =
    ap Some c.deref_mut-kept.ensures.value ∙ sym (found_in_box objects c.number.result c.in_ok-found.found.now c.in_ok-found.ensures.value) in
    subst (λ (r : Option Row). IfSome r (λ old. old.stamp + 1 < 2 ^ 64))
    (row_found (unboxed objects) c.args.self.now c.args.object c.number.result (Some c.deref_mut-kept.result.now) c.self.view_is c.number.ensures there) c.requires.there

pub returns : goal.returns
returns g c =
    let objects = c.self.inside.objects.entries in
    let box = c.in_ok-found.found.now in
    let old : Kept g.row.V.Denot = c.deref_mut-kept.result.now in
    let found = c.in_ok-found.ensures.value in
    let there : Some old ≡ value_of (unboxed objects) c.number.result = ap Some c.deref_mut-kept.ensures.value ∙ sym (found_in_box objects c.number.result box found) in
    let row : Row = c.args.row.now in
    let next : Row = c.next_of-kept.result in
    let value = value_found (unboxed objects) c.args.self.now c.args.object c.number.result (Some old) c.self.view_is c.number.ensures there in
    let changed = λ (w : g.row.V.Denot).
    let kept : Kept g.row.V.Denot = record { row = next; value = w } in
    let after = (c.get_mut.follows.lender (in_box box kept)).entries in
    let put = puts_unboxed objects after c.number.result (in_box box kept) (put_at objects after c.number.result (in_box box kept) ((c.get_mut.follows.holds (in_box box kept)).3 (ap is_some (sym found))).0) in
    subst (λ (m : MapOf _). IfSome (row_of m.rows c.args.object) (λ before. Puts m c.args.object (record row { stamp = before.stamp + 1 }) w (parts_of (unboxed after)))) c.self.view_is
    (lent (unboxed objects) (unboxed after) c.args.object c.number.result row next w old c.number.ensures there c.next_of-kept.ensures put) in
    ((refl, changed, refl), record { changed = tt; value = sym value; none = tt })
