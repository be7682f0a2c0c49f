use Rattle.std.proofs.Common.{◌≡◌, ◌+◌, ◌<◌, ℕ, length, refl, sym, subst, ◌∙◌, arith}
use Rattle.segment_word.specs.Layout.{frame_at}
use Rattle.segment_table.specs.Table.{Table, held_at}
use Rattle.drive.specs.Fields.{DriveFields}
use Rattle.segment_copier.specs.declared.counting.Counted.{Counted}
use Rattle.segment_copier.specs.Choosing.{IsLife}
use Rattle.segment_copier.specs.Counting.{added_at, objects_at, IsCounted}
use Rattle.segment_copier.proofs.FrameCounts.{counted_next, blocks_counted, objects_counted, held_counted}
use Rattle.segment_copier.proofs.counting.count_frame.Goals as goal

pub loop-index-preserved : goal.loop-index-preserved
loop-index-preserved g c =
    let d : DriveFields = c.generation.new.self in
    let t : Table = d.store.table in
    let written : ℕ → ℕ = g.W.Rewrites.written c.args.rewrites.now d in
    let n : ℕ = c.loop-index.index in
    let so_far : Counted = c.loop-index.so_far in
    let generation : c.in_ok-generation.generation ≡ (frame_at t.seat.frames c.args.frame).generation =
    subst (λ (e : DriveFields). c.in_ok-generation.generation ≡ (frame_at e.store.table.seat.frames c.args.frame).generation) (sym c.generation.ensures.same) c.in_ok-generation.ensures.generation in
    let blocks : c.with_block-so_far.result.blocks ≡ so_far.blocks + added_at written so_far.objects.items (held_at t c.in_ok-place.place) =
    subst (λ (e : DriveFields). c.with_block-so_far.result.blocks ≡ so_far.blocks + added_at (g.W.Rewrites.written c.args.rewrites.now e) so_far.objects.items (held_at e.store.table c.in_ok-place.place))
    c.loop-index.invariant.same c.with_block-so_far.ensures.blocks in
    let objects : c.with_block-so_far.result.objects.items ≡ objects_at so_far.objects.items (held_at t c.in_ok-place.place) =
    subst (λ (e : DriveFields). c.with_block-so_far.result.objects.items ≡ objects_at so_far.objects.items (held_at e.store.table c.in_ok-place.place)) c.loop-index.invariant.same c.with_block-so_far.ensures.objects in
    record {
      same = c.with_block-so_far.ensures.same ∙ c.loop-index.invariant.same;
      life = λ _. (let place = c.in_ok-place.ensures.place.0 refl in (place.lowest_generation, place.highest_generation));
      counts = counted_next written t c.args.frame n (n + 1) c.in_ok-generation.generation c.in_ok-place.place so_far c.with_block-so_far.result
          c.loop-index-test.true c.in_ok-place.ensures.value refl generation blocks objects c.with_block-so_far.ensures.few c.loop-index.invariant.counts;
    }

pub returns-clause-some : goal.returns-clause-some
returns-clause-some g c =
    let d : DriveFields = c.generation.new.self in
    let t : Table = d.store.table in
    let written : ℕ → ℕ = g.W.Rewrites.written c.args.rewrites.now d in
    let n : ℕ = c.loop-index.index in
    let generation : c.in_ok-generation.generation ≡ (frame_at t.seat.frames c.args.frame).generation =
    subst (λ (e : DriveFields). c.in_ok-generation.generation ≡ (frame_at e.store.table.seat.frames c.args.frame).generation) (sym c.generation.ensures.same) c.in_ok-generation.ensures.generation in
    let counted : IsCounted written t c.args.frame c.loop-index.so_far = record {
      inside = subst (λ (e : DriveFields). c.args.frame < length e.store.table.seat.frames) (sym c.generation.ensures.same) c.in_ok-generation.ensures.inside;
      life = subst (λ (x : ℕ). IsLife x) generation (c.loop-index.invariant.life (omega arith));
      blocks = blocks_counted written t c.args.frame n c.loop-index.so_far (omega arith) c.loop-index.invariant.counts;
      objects = objects_counted written t c.args.frame n c.loop-index.so_far (omega arith) c.loop-index.invariant.counts;
      held = held_counted written t c.args.frame n c.loop-index.so_far (omega arith) c.loop-index.invariant.counts;
    } in
    subst (λ (e : DriveFields). IsCounted (g.W.Rewrites.written c.args.rewrites.now e) e.store.table c.args.frame c.loop-index.so_far) c.generation.ensures.same counted
