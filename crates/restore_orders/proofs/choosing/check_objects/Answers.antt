use Rattle.std.proofs.Common.{◌≡◌, ◌≢◌, ◌∙◌, ℕ, ◌+◌, ◌++◌, ◌<◌, [], ◌∷◌, None, length, take, ap, sym, subst, arith}
use Rattle.std.proofs.lemmas.List.{take_more}
use Rattle.std.proofs.SliceLists.{all_by_recursion_push}
use Rattle.object_map.specs.Rows.{row_of}
use Rattle.drive.specs.Fields.{store_of}
use Rattle.restore_orders.specs.Choosing.{HaveRows}
use Rattle.restore_orders.proofs.choosing.check_objects.Goals as goal

pub loop-object-preserved : goal.loop-object-preserved
loop-object-preserved g c =
    let store = store_of c.args.drive.now in
    let all = c.args.objects.now in
    let i = c.loop-object.object-index in
    let o : ℕ = c.object-item.result in
    let lt : i < length all = omega arith in
    let more : take (i + 1) all ≡ take i all ++ o ∷ [] = take_more all i o lt ∙ ap (λ (x : ℕ). take i all ++ x ∷ []) (sym c.object-item.is) in
    subst (HaveRows store) (sym more)
    (all_by_recursion_push (λ (n : ℕ). row_of store.rows n ≢ None) (take i all) o c.loop-object.invariant
    (subst (λ (n : ℕ). row_of store.rows n ≢ None) c.number.ensures c.in_ok-check_object.ensures.there))
