use Rattle.std.proofs.Common.{◌≡◌, ℕ, ◌+◌, IfSome, subst}
use Rattle.object_map.specs.declared.map.Row.{Row}
use Rattle.object_map.specs.Objects.{MapOf, PutsRow, value_of, with_value, parts_of, unboxed}
use Rattle.object_map.specs.Rows.{row_of}
use Rattle.object_map.proofs.Mapped.{row_changed, can_change}
use Rattle.object_map.proofs.map.ObjectMap.change_row.Goals as goal

pub replace_row-requires : goal.replace_row-requires
replace_row-requires g c =
    let can = can_change (unboxed c.self.inside.objects.entries) c.args.self.now c.args.object c.number.result c.self.view_is c.number.ensures c.requires.there c.requires.some in
    record { there = can.0; some = can.1 }

pub returns : goal.returns
returns g c =
    let objects = unboxed c.self.inside.objects.entries in
    let after = unboxed c.replace_row.new.map.entries in
    let row : Row = c.args.row.now in
    let put = subst (λ (o : ℕ). IfSome (value_of objects o) (λ old. (q : ℕ) → value_of after q ≡ with_value (value_of objects) o (record old { row = record row { stamp = old.row.stamp + 1 } }) q)) c.number.ensures c.replace_row.ensures.changed in
    record {
      changed = subst (λ (m : MapOf _). IfSome (row_of m.rows c.args.object) (λ old. PutsRow m c.args.object (record row { stamp = old.stamp + 1 }) (parts_of after))) c.self.view_is
          (row_changed objects after c.args.object row put);
    }
