use Rattle.std.proofs.Common.{◌≡◌, ◌+◌, ◌≤◌, ℕ, true, false, refl, sym, ap, subst, ◌∙◌, arith}
use Rattle.segment_word.specs.Layout.{frame_at}
use Rattle.segment_table.specs.Table.{Table, held_at}
use Rattle.segment_table.specs.Room.{sum_over}
use Rattle.drive.specs.Fields.{DriveFields}
use Rattle.segment_copier.specs.Moves.{is_data}
use Rattle.drive_compaction.specs.Holding.{data_at, data_in}
use Rattle.drive_compaction.proofs.Taken.{lives}
use Rattle.drive_compaction.proofs.Held.{all_blocks, block_more}
use Rattle.drive_compaction.proofs.holding.data_in.Goals as goal
use Rattle.drive_compaction.proofs.holding.data_in.Goals.{then-is_data_at, else-is_data_at}

pub loop-index-preserved : goal.loop-index-preserved
loop-index-preserved g c =
    let t : Table = c.generation.new.self.store.table in
    let n : ℕ = c.loop-index.index in
    let f : ℕ = c.args.frame in
    let were : c.loop-index.count ≤ n = c.loop-index.invariant.few in
    let generation : c.in-Some.generation ≡ (frame_at t.seat.frames f).generation =
    subst (λ (e : DriveFields). c.in-Some.generation ≡ (frame_at e.store.table.seat.frames f).generation) (sym c.generation.ensures.same) c.in-Some.ensures.generation in
    record {
      same = c.is_data_at.ensures.same ∙ c.loop-index.invariant.same;
      few = elim c.if-is_data_at.branch [
        | then-is_data_at w ↦ (let is = w.count-is in omega (arith, is, were))
        | else-is_data_at w ↦ (let is = w.count-is in omega (arith, is, were))
      ];
      life = λ _. (let place = c.in-Some-new.ensures.place.0 refl in lives c.in-Some.generation place.lowest_generation place.highest_generation);
      counted = elim c.if-is_data_at.branch [
        | then-is_data_at w ↦ (let is = w.count-is in
            let here : true ≡ is_data (held_at t c.in-Some-new.place) = w.if-is_data_at.ensures.data ∙ ap (λ (e : DriveFields). is_data (held_at e.store.table c.in-Some-new.place)) c.loop-index.invariant.same in
            let more : c.loop-index.count + 1 ≡ sum_over (data_at t f) 1 (n + 1) =
            block_more t f n (n + 1) c.in-Some.generation c.loop-index.count c.in-Some-new.place true c.in-Some-new.ensures.value refl generation here c.loop-index.invariant.counted in
            omega (arith, is, more))
        | else-is_data_at w ↦ (let is = w.count-is in
            let here : false ≡ is_data (held_at t c.in-Some-new.place) = w.if-is_data_at.ensures.data ∙ ap (λ (e : DriveFields). is_data (held_at e.store.table c.in-Some-new.place)) c.loop-index.invariant.same in
            let more : c.loop-index.count + 0 ≡ sum_over (data_at t f) 1 (n + 1) =
            block_more t f n (n + 1) c.in-Some.generation c.loop-index.count c.in-Some-new.place false c.in-Some-new.ensures.value refl generation here c.loop-index.invariant.counted in
            omega (arith, is, more))
      ];
    }

pub returns-clause-data : goal.returns-clause-data
returns-clause-data g c =
    let t : Table = c.generation.new.self.store.table in
    let n : ℕ = c.loop-index.index in
    let generation : c.in-Some.generation ≡ (frame_at t.seat.frames c.args.frame).generation =
    subst (λ (e : DriveFields). c.in-Some.generation ≡ (frame_at e.store.table.seat.frames c.args.frame).generation) (sym c.generation.ensures.same) c.in-Some.ensures.generation in
    let end : n ≡ 15 = omega (arith, c.loop-index-test.false, c.loop-index.auto.index-end) in
    all_blocks t c.args.frame n c.in-Some.generation c.loop-index.count end generation (c.loop-index.invariant.life (omega (arith, end))) c.loop-index.invariant.counted
    ∙ ap (λ (e : DriveFields). data_in e.store.table c.args.frame) c.generation.ensures.same
