use Rattle.std.proofs.Common.{◌≡◌, ◌⊎◌, inl, inr, ℕ, ◌+◌, ◌-◌, ◌/◌, ◌<◌, length, ap, ◌∙◌, arith, length-drop}
use Rattle.std.proofs.lemmas.List.{length-take}
use Rattle.std.proofs.lemmas.Result.{on_ok_weaker}
use Rattle.image_update.specs.Layout.{pairs_in, size_of}
use Rattle.image_update.specs.Pairs.{built, built_in}
use Rattle.image_update.proofs.Loops.{built_last, built_more}
use Rattle.image_update.proofs.walking.compare_units.Goals as goal
use Rattle.image_update.proofs.walking.compare_units.Goals.{then-old-size-via-then-old-size, then-old-size-via-else-old-size+then-new-size}

pub returns-then-old-size-clause-pairs : goal.returns-then-old-size-clause-pairs
returns-then-old-size-clause-pairs c =
    let kind = c.args.kind in
    let size = c.size-size.result in
    let is = c.size-size.ensures in
    let old = c.args.old.now in
    let new = c.args.new.now in
    let left : ℕ = length old / size + length new / size - c.loop.counter in
    let end : (left ≡ 0) ⊎ ((length c.loop.old.now < size_of kind) ⊎ (length c.loop.new.now < size_of kind)) =
    elim c.then-old-size.branch [
      | then-old-size-via-then-old-size w ↦ inr (inl (omega (arith, w.if-old-size.true, is)))
      | then-old-size-via-else-old-size+then-new-size w ↦ inr (inr (omega (arith, w.if-new-size.true, is)))
    ] in
    on_ok_weaker c.pair.result
    (λ after.
    built_last kind left c.loop.old.now c.loop.new.now (built_in c.loop.out) (built_in c.pair.new.self) _ end after c.loop.invariant.pairs
    ∙ ap (λ (s : ℕ). built (pairs_in kind (length old / s + length new / s) old new) (built_in c.args.out.now)) is)
    c.pair.ensures.pair

pub loop-preserved : goal.loop-preserved
loop-preserved c =
    let is = c.size-size.ensures in
    let size = c.size-size.result in
    let old = c.loop.old.now in
    let new = c.loop.new.now in
    let m = c.facing-before.result.0 in
    let n = c.facing-before.result.1 in
    record {
      pairs = built_more c.args.kind (length c.args.old.now / size + length c.args.new.now / size) c.loop.counter m n old new c.split_at.result.0.now c.split_at-in-loop.result.0.now c.split_at.result.1.now c.split_at-in-loop.result.1.now
          (built_in c.loop.out) (built_in c.pair-in-loop.new.self) _ c.loop-test.true (omega (arith, c.if-old-size.false, is)) (omega (arith, c.if-new-size.false, is)) c.facing-before.ensures
          c.split_at.ensures.front c.split_at.ensures.back c.split_at-in-loop.ensures.front c.split_at-in-loop.ensures.back c.in_ok-pair.ensures.pair c.loop.invariant.pairs;
      old = omega (arith, c.in_ok-pair.ensures.grows.old, c.loop.invariant.old, ap length c.split_at.ensures.front, length-take m old, ap length c.split_at.ensures.back, length-drop m old);
      new = omega (arith, c.in_ok-pair.ensures.grows.new, c.loop.invariant.new, ap length c.split_at-in-loop.ensures.front, length-take n new, ap length c.split_at-in-loop.ensures.back, length-drop n new);
    }
