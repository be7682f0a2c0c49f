use Rattle.std.proofs.Common.{◌≡◌, ◌+◌, ℕ, List, true, false, refl, sym, ap, subst, ◌∙◌, arith}
use Rattle.segment_word.specs.Layout.{frame_at}
use Rattle.segment_table.specs.Table.{Table, held_at}
use Rattle.drive.specs.Fields.{DriveFields}
use Rattle.drive_compaction.specs.Choosing.{is_taken, is_life, are_all_taken}
use Rattle.drive_compaction.proofs.Taken.{taken_more, stays_there, all_taken, lives}
use Rattle.drive_compaction.proofs.frames.are_all_taken.Goals as goal

pub returns-then-not-is_taken-clause-taken : goal.returns-then-not-is_taken-clause-taken
returns-then-not-is_taken-clause-taken g c =
    let t : Table = c.generation.new.self.store.table in
    let n : ℕ = c.loop-index.index in
    let objects : List ℕ = c.args.objects.now in
    let generation : c.in-Some.generation ≡ (frame_at t.seat.frames c.args.frame).generation =
    subst (λ (e : DriveFields). c.in-Some.generation ≡ (frame_at e.store.table.seat.frames c.args.frame).generation) (sym c.generation.ensures.same) c.in-Some.ensures.generation in
    let here : is_taken objects (held_at t c.in-Some-new.place) ≡ false =
    ap (λ (e : DriveFields). is_taken objects (held_at e.store.table c.in-Some-new.place)) (sym c.loop-index.invariant.same) ∙ sym c.if-not-is_taken.ensures.taken in
    sym (stays_there t objects c.args.frame n (n + 1) c.in-Some.generation c.in-Some-new.place c.loop-index-test.true c.in-Some-new.ensures.value refl generation here)
    ∙ ap (λ (e : DriveFields). are_all_taken e.store.table objects c.args.frame) c.generation.ensures.same

pub loop-index-preserved : goal.loop-index-preserved
loop-index-preserved g c =
    let t : Table = c.generation.new.self.store.table in
    let n : ℕ = c.loop-index.index in
    let objects : List ℕ = c.args.objects.now in
    let generation : c.in-Some.generation ≡ (frame_at t.seat.frames c.args.frame).generation =
    subst (λ (e : DriveFields). c.in-Some.generation ≡ (frame_at e.store.table.seat.frames c.args.frame).generation) (sym c.generation.ensures.same) c.in-Some.ensures.generation in
    let here : is_taken objects (held_at t c.in-Some-new.place) ≡ true =
    ap (λ (e : DriveFields). is_taken objects (held_at e.store.table c.in-Some-new.place)) (sym c.loop-index.invariant.same) ∙ sym c.if-not-is_taken.ensures.taken in
    record {
      same = c.is_taken.ensures.same ∙ c.loop-index.invariant.same;
      life = λ _. (let place = c.in-Some-new.ensures.place.0 refl in lives c.in-Some.generation place.lowest_generation place.highest_generation);
      taken = taken_more t objects c.args.frame n (n + 1) c.in-Some.generation c.in-Some-new.place c.loop-index-test.true c.in-Some-new.ensures.value refl generation here c.loop-index.invariant.taken;
    }

pub returns-clause-taken : goal.returns-clause-taken
returns-clause-taken g c =
    let t : Table = c.generation.new.self.store.table in
    let n : ℕ = c.loop-index.index in
    let objects : List ℕ = c.args.objects.now in
    let generation : c.in-Some.generation ≡ (frame_at t.seat.frames c.args.frame).generation =
    subst (λ (e : DriveFields). c.in-Some.generation ≡ (frame_at e.store.table.seat.frames c.args.frame).generation) (sym c.generation.ensures.same) c.in-Some.ensures.generation in
    let end : n ≡ 15 = omega (arith, c.loop-index-test.false, c.loop-index.auto.index-end) in
    sym (all_taken t objects c.args.frame n end (ap is_life (sym generation) ∙ c.loop-index.invariant.life (omega (arith, end))) c.loop-index.invariant.taken)
    ∙ ap (λ (e : DriveFields). are_all_taken e.store.table objects c.args.frame) c.generation.ensures.same
