use Rattle.std.proofs.Common.{◌≡◌, ℕ, true, false, sym, ap, ◌∙◌, arith}
use Rattle.s4_types.specs.declared.limits.TheConstants.{OBJECT_BLOCKS}
use Rattle.segment_table.specs.Used.{used_at}
use Rattle.image_salvage.specs.Contents.{gone_below}
use Rattle.image_salvage.proofs.Going.{none_gone, one_gone}
use Rattle.image_salvage.proofs.contents.count_gone.Goals as goal
use Rattle.image_salvage.proofs.contents.count_gone.Goals.{then-is_gone, else-is_gone}

pub loop-index-init : goal.loop-index-init
loop-index-init c = record { few = omega arith; counted = none_gone (used_at c.args.table.now) c.args.object c.args.inode.now }

pub loop-index-preserved : goal.loop-index-preserved
loop-index-preserved c = elim c.if-is_gone.branch [
  | then-is_gone w ↦ record {
    few = omega (arith, w.gone-is, c.loop-index.invariant.few);
    counted = one_gone (used_at c.args.table.now) c.args.object c.args.inode.now c.loop-index.index c.loop-index.gone c.if-is_gone.gone true c.loop-index.invariant.counted (sym w.if-is_gone.true ∙ c.is_gone.ensures) w.gone-is;
  }
  | else-is_gone w ↦ record {
    few = omega (arith, w.gone-is, c.loop-index.invariant.few);
    counted = one_gone (used_at c.args.table.now) c.args.object c.args.inode.now c.loop-index.index c.loop-index.gone c.if-is_gone.gone false c.loop-index.invariant.counted (sym w.if-is_gone.false ∙ c.is_gone.ensures) (omega (arith, w.gone-is));
  }
]

pub returns : goal.returns
returns c =
    let end : c.loop-index.index ≡ OBJECT_BLOCKS = omega arith in
    c.loop-index.invariant.counted ∙ ap (λ (n : ℕ). gone_below (used_at c.args.table.now) c.args.object c.args.inode.now n) end
