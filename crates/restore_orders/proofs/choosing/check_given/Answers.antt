use Rattle.std.proofs.Common.{◌≡◌, ◌∙◌, ◌+◌, ◌++◌, ◌<◌, [], ◌∷◌, length, take, ap, sym, subst, arith}
use Rattle.std.proofs.lemmas.List.{take_more}
use Rattle.std.proofs.SliceLists.{all_by_recursion_push}
use Rattle.drive.specs.Fields.{state_in}
use Rattle.history_restore.specs.declared.aims.StandIn.{StandIn}
use Rattle.restore_orders.specs.Choosing.{AreGiven}
use Rattle.restore_orders.proofs.choosing.check_given.Goals as goal

pub loop-stand_in-preserved : goal.loop-stand_in-preserved
loop-stand_in-preserved g c =
    let s = state_in c.args.drive.now in
    let all = c.args.stand_ins.now in
    let i = c.loop-stand_in.stand_in-index in
    let l : StandIn = c.stand_in-item.result in
    let lt : i < length all = omega arith in
    let before = c.loop-stand_in.invariant in
    let given = c.if-not-was_given.ensures in
    let more : take (i + 1) all ≡ take i all ++ l ∷ [] = take_more all i l lt ∙ ap (λ (x : StandIn). take i all ++ x ∷ []) (sym c.stand_in-item.is) in
    record {
      next = before.next;
      given = subst (AreGiven s) (sym more) (all_by_recursion_push (λ (x : StandIn). (0 < x.number) × (x.number < s.next)) (take i all) l before.given
          (omega (arith, given.0, c.number-object.ensures), omega (arith, given.1, c.number-object.ensures, before.next)));
    }
