use Rattle.std.proofs.Common.{◌≡◌, ℕ, None, sym, ap, subst, ◌∙◌}
use Rattle.std.specs.Prelude.{OnOk}
use Rattle.object_map.specs.Objects.{MapOf, Puts, PutsBehind, value_of, with_value, parts_of, unboxed}
use Rattle.object_map.specs.Rows.{row_of}
use Rattle.object_map.proofs.Mapped.{none_kept, puts, kept_below, puts_behind, on_ok}
use Rattle.object_map.proofs.map.ObjectMap.insert.Goals as goal

pub put-requires : goal.put-requires
put-requires g c =
    let objects = unboxed c.self.inside.objects.entries in
    let none = subst (λ (m : MapOf _). row_of m.rows c.args.object ≡ None) (sym c.self.view_is) c.requires.fresh in
    record { fresh = ap (value_of objects) c.number.ensures ∙ none_kept objects c.args.object none }

pub returns-clause-added : goal.returns-clause-added
returns-clause-added g c =
    let objects = unboxed c.self.inside.objects.entries in
    let after = unboxed c.put.new.map.entries in
    let put = subst (λ (o : ℕ). OnOk c.put.result ((q : ℕ) → value_of after q ≡ with_value (value_of objects) o (record { row = c.args.row.now; value = c.args.value }) q)) c.number.ensures c.put.ensures.put in
    on_ok (λ is. subst (λ (m : MapOf _). Puts m c.args.object c.args.row.now c.args.value (parts_of after)) c.self.view_is
    (puts objects after c.args.object (record { row = c.args.row.now; value = c.args.value }) is)) c.put.result put

pub returns-clause-behind : goal.returns-clause-behind
returns-clause-behind g c = λ below.
    let objects = unboxed c.self.inside.objects.entries in
    let after = unboxed c.put.new.map.entries in
    on_ok (λ is. subst (λ (m : MapOf _). PutsBehind m c.args.object c.args.row.now c.args.value (parts_of after)) c.self.view_is
    (puts_behind objects after c.args.object c.number.result (record { row = c.args.row.now; value = c.args.value }) c.number.ensures is))
    c.put.result (c.put.ensures.behind (kept_below objects c.args.self.now c.args.object c.number.result c.self.view_is c.number.ensures below))
