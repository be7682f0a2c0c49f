use Rattle.std.proofs.Common.{◌≡◌, ℕ, ◌+◌, ◌-◌, ◌/◌, ◌<◌, ◌≤◌, true, min, slice_index_or, Option, inl, inr, refl, sym, ap, subst, ◌∙◌, arith}
use Rattle.std.proofs.lemmas.Result.{err_from_is_err_and}
use Rattle.codec.specs.Checkpoint.{pointer_at}
use Rattle.inode.specs.Touched.{touched_count}
use Rattle.s4_types.specs.Pointer.{Place}
use Rattle.s4_types.specs.declared.limits.TheConstants.{OBJECT_BLOCKS}
use Rattle.segment_table.specs.Table.{Table}
use Rattle.time_read.specs.Plans.{PlanFields, piece_of, is_pinned}
use Rattle.time_read.specs.private.Planning.{AddsPiece}
use Rattle.time_read.proofs.Planning.{planned_more, planned_bytes, pinned_among, slot_at, passed, inside}
use Rattle.time_read.proofs.plans.plan.Goals as goal

pub returns-in_err-add-clause-refusal : goal.returns-in_err-add-clause-refusal
returns-in_err-add-clause-refusal c =
    let p = err_from_is_err_and c.from_residual-in_err-add.result c.from_residual-in_err-add.ensures.1 in
    let low : c.args.offset / 512 ≤ c.loop-index.index = c.loop-index.auto.index in
    let count_is : c.min-count.result ≡ min c.args.wanted (c.args.inode.now.size - c.args.offset) = c.min-count.ensures ∙ ap (min c.args.wanted) c.saturating_sub-left.ensures in
    let behind : c.block_behind-end.result ≡ c.args.offset / 512 + touched_count c.args.offset (min c.args.wanted (c.args.inode.now.size - c.args.offset)) =
    c.block_behind-end.ensures ∙ ap (λ (n : ℕ). c.args.offset / 512 + touched_count c.args.offset n) count_is in
    let below : c.loop-index.index < c.args.offset / 512 + touched_count c.args.offset (min c.args.wanted (c.args.inode.now.size - c.args.offset)) = subst (λ (n : ℕ). c.loop-index.index < n) behind c.loop-index-test.true in
    let within : c.loop-index.index < OBJECT_BLOCKS = inside c.args.offset c.args.wanted c.args.inode.now.size c.loop-index.index c.requires.size low below in
    let slot : Option Place = slice_index_or c.args.inode.now.pointers c.loop-index.index c.index-inode-index.result in
    let slot_is : slot ≡ pointer_at c.args.inode.now c.loop-index.index = slot_at c.args.inode.now c.loop-index.index slot c.index-inode-index.result (omega (arith, within, c.requires.count)) refl in
    let index_is : c.loop-index.index ≡ c.args.offset / 512 + (c.loop-index.index - c.args.offset / 512) = omega (arith, low) in
    rw (p.1, p.2) (elim c.in_err-add.ensures.refusal [
      | inl memory ↦ inl memory
      | inr busy ↦ inr (
        busy.0,
        pinned_among c.args.table.now c.args.inode.now c.args.offset (min c.args.wanted (c.args.inode.now.size - c.args.offset)) (c.loop-index.index - c.args.offset / 512) (omega (arith, low, below))
            (sym (ap (λ (s : Option Place). is_pinned (piece_of c.args.table.now s)) (slot_is ∙ ap (pointer_at c.args.inode.now) index_is))
            ∙ subst (λ (t : Table). is_pinned (piece_of t slot) ≡ true) c.loop-index.invariant.table busy.1),
      )
    ])

pub loop-index-preserved : goal.loop-index-preserved
loop-index-preserved c =
    let adds = c.in_ok-add.ensures.adds in
    let low : c.args.offset / 512 ≤ c.loop-index.index = c.loop-index.auto.index in
    let count_is : c.min-count.result ≡ min c.args.wanted (c.args.inode.now.size - c.args.offset) = c.min-count.ensures ∙ ap (min c.args.wanted) c.saturating_sub-left.ensures in
    let behind : c.block_behind-end.result ≡ c.args.offset / 512 + touched_count c.args.offset (min c.args.wanted (c.args.inode.now.size - c.args.offset)) =
    c.block_behind-end.ensures ∙ ap (λ (n : ℕ). c.args.offset / 512 + touched_count c.args.offset n) count_is in
    let below : c.loop-index.index < c.args.offset / 512 + touched_count c.args.offset (min c.args.wanted (c.args.inode.now.size - c.args.offset)) = subst (λ (n : ℕ). c.loop-index.index < n) behind c.loop-index-test.true in
    let within : c.loop-index.index < OBJECT_BLOCKS = inside c.args.offset c.args.wanted c.args.inode.now.size c.loop-index.index c.requires.size low below in
    let slot : Option Place = slice_index_or c.args.inode.now.pointers c.loop-index.index c.index-inode-index.result in
    let slot_is : slot ≡ pointer_at c.args.inode.now c.loop-index.index = slot_at c.args.inode.now c.loop-index.index slot c.index-inode-index.result (omega (arith, within, c.requires.count)) refl in
    record {
      planned = planned_more c.args.table.now c.args.inode.now (c.args.offset / 512) (c.loop-index.index - c.args.offset / 512) (c.loop-index.index + 1 - c.args.offset / 512) c.loop-index.index slot c.loop-index.plan c.add.new.self
          c.loop-index.invariant.planned slot_is (omega (arith, low)) (omega (arith, low)) (subst (λ (t : Table). AddsPiece t slot c.loop-index.plan c.add.new.self) c.loop-index.invariant.table adds);
      skip = ap (λ (p : PlanFields). p.skip) adds.rest ∙ c.loop-index.invariant.skip;
      length = ap (λ (p : PlanFields). p.length) adds.rest ∙ c.loop-index.invariant.length;
      table = c.in_ok-add.ensures.same ∙ c.loop-index.invariant.table;
    }

pub returns-clause-bytes : goal.returns-clause-bytes
returns-clause-bytes c =
    let count_is : c.min-count.result ≡ min c.args.wanted (c.args.inode.now.size - c.args.offset) = c.min-count.ensures ∙ ap (min c.args.wanted) c.saturating_sub-left.ensures in
    let behind : c.block_behind-end.result ≡ c.args.offset / 512 + touched_count c.args.offset (min c.args.wanted (c.args.inode.now.size - c.args.offset)) =
    c.block_behind-end.ensures ∙ ap (λ (n : ℕ). c.args.offset / 512 + touched_count c.args.offset n) count_is in
    planned_bytes c.ranges_join_and_part.ensures.equal c.ranges_join_and_part.ensures.offset c.args.table.now c.args.inode.now c.args.offset c.args.wanted (c.loop-index.index - c.args.offset / 512) c.loop-index.plan c.loop-index.invariant.planned
    (passed (touched_count c.args.offset (min c.args.wanted (c.args.inode.now.size - c.args.offset))) (c.args.offset / 512) c.block_behind-end.result c.loop-index.index behind c.loop-index-test.false (c.loop-index.auto.index-end (omega (arith, behind))))
    c.loop-index.invariant.skip (c.loop-index.invariant.length ∙ count_is)
