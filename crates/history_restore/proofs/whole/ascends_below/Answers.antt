use Rattle.std.proofs.Common.{◌∙◌, ◌<◌, ℕ, ap, length, subst, arith}
use Rattle.history_restore.specs.declared.aims.Aim.{Aim}
use Rattle.history_restore.proofs.Rows.{ascend_on}
use Rattle.history_restore.proofs.whole.ascends_below.Goals as goal

pub loop-aim-preserved : goal.loop-aim-preserved
loop-aim-preserved c =
    let aims = c.args.aims.now in
    let i = c.loop-aim.aim-index in
    let number : ℕ = c.number-number.result in
    let lt : i < length aims = omega arith in
    let between = c.if-not-is_between.ensures in
    ascend_on c.args.next c.loop-aim.last i number c.aim-item.result aims lt (c.number-number.ensures ∙ ap (λ (a : Aim). a.target) c.aim-item.is)
    (between.0, subst (λ (n : ℕ). number < n) c.number.ensures between.1) c.loop-aim.invariant
