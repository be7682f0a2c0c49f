use Rattle.std.proofs.Common.{◌≡◌, ℕ, ◌<◌, Option, None, IfNone, sym, subst}
use Rattle.object_map.specs.Objects.{MapOf, unboxed, IsNextAbove, value_of}
use Rattle.object_map.specs.Rows.{row_of}
use Rattle.object_map.proofs.Mapped.{next_row, none_above, next_unboxed, none_unboxed}
use Rattle.object_map.proofs.map.ObjectMap.next_above.Goals as goal

pub returns-in_err-next-clause-none : goal.returns-in_err-next-clause-none
returns-in_err-next-clause-none g c =
    let boxes = c.self.inside.objects.entries in
    let objects = unboxed boxes in
    let none = subst (λ (o : ℕ). (q : ℕ) → o < q → value_of objects q ≡ None) c.number.ensures (none_unboxed boxes c.number.result c.in_err-next.ensures.none) in
    let above = subst (λ (m : MapOf _). (q : ℕ) → c.args.object < q → row_of m.rows q ≡ None) c.self.view_is (none_above objects c.args.object none) in
    subst (λ (r : Option ℕ). IfNone r ((q : ℕ) → c.args.object < q → row_of c.args.self.now.rows q ≡ None)) (sym c.from_residual.ensures) above

pub returns-clause-some : goal.returns-clause-some
returns-clause-some g c =
    let boxes = c.self.inside.objects.entries in
    let objects = unboxed boxes in
    let next = subst (λ (o : ℕ). IsNextAbove objects o c.in_ok-next.next) c.number.ensures (next_unboxed boxes c.number.result c.in_ok-next.next c.in_ok-next.ensures.some) in
    let is = subst (λ (m : MapOf _). IsNextAbove m.rows c.args.object c.in_ok-next.next) c.self.view_is (next_row objects c.args.object c.in_ok-next.next next) in
    subst (λ (n : ℕ). IsNextAbove c.args.self.now.rows c.args.object n) (sym c.new.ensures) is
