use Rattle.std.proofs.Common.{◌≡◌, ◌∙◌, ℕ, Bool, cond, sym, ap, arith}
use Rattle.version_store.specs.Costs.{is_past}
use Rattle.version_store.proofs.Costing.{past_more}
use Rattle.history_restore.proofs.costs.blocks_past.Goals as goal
use Rattle.history_restore.proofs.costs.blocks_past.Goals.{then-is_past, else-is_past}

pub loop-index-preserved : goal.loop-index-preserved
loop-index-preserved c =
    let i = c.args.inode.now in
    let size = c.args.size in
    let n = c.loop-index.index in
    let before = c.loop-index.invariant in
    elim c.if-is_past.branch [
      | then-is_past w ↦
          let one : ◌≡◌ {A = ℕ} (cond (is_past i size n) 1 0) 1 = ap (λ (b : Bool). cond b 1 0) (sym c.is_past.ensures ∙ w.if-is_past.true) in
          record { counted = omega (arith, w.count-is, past_more i size n, one, before.counted); most = omega (arith, w.count-is, before.most) }
      | else-is_past w ↦
          let none : ◌≡◌ {A = ℕ} (cond (is_past i size n) 1 0) 0 = ap (λ (b : Bool). cond b 1 0) (sym c.is_past.ensures ∙ w.if-is_past.false) in
          record { counted = omega (arith, w.count-is, past_more i size n, none, before.counted); most = omega (arith, w.count-is, before.most) }
    ]
