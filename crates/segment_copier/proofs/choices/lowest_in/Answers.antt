use Rattle.std.proofs.Common.{◌≡◌, ◌+◌, refl, sym, ap, subst, ◌∙◌, arith}
use Rattle.std.specs.Prelude.{option_map, IfNone}
use Rattle.segment_word.specs.Layout.{frame_at}
use Rattle.segment_table.specs.Table.{Table, held_at, role_of}
use Rattle.drive.specs.Fields.{DriveFields}
use Rattle.segment_copier.specs.Choosing.{IsSparse}
use Rattle.segment_copier.specs.private.Surveying.{IsFound}
use Rattle.segment_copier.proofs.Surveyed.{step_with, step_without, none_sparse}
use Rattle.segment_copier.proofs.choices.lowest_in.Goals as goal
use Rattle.segment_copier.proofs.choices.lowest_in.Goals.{in-Some, in_default}

pub loop-index-preserved : goal.loop-index-preserved
loop-index-preserved g c =
    let t : Table = c.generation.new.self.store.table in
    let generation : c.in_ok-generation.generation ≡ (frame_at t.seat.frames c.args.frame).generation =
    subst (λ (d : DriveFields). c.in_ok-generation.generation ≡ (frame_at d.store.table.seat.frames c.args.frame).generation) (sym c.generation.ensures.same) c.in_ok-generation.ensures.generation in
    let role : c.role.result ≡ option_map role_of (held_at t c.in_ok-place.place) =
    c.role.ensures.role ∙ ap (λ (d : DriveFields). option_map role_of (held_at d.store.table c.in_ok-place.place)) c.loop-index.invariant.same in
    record {
      same = c.role.ensures.same ∙ c.loop-index.invariant.same;
      life = λ _. (let place = c.in_ok-place.ensures.place.0 refl in (place.lowest_generation, place.highest_generation));
      found = elim c.match-role.branch [
        | in-Some w ↦ subst (IsFound t c.args.frame (c.loop-index.index + 1)) (sym w.lowest-is)
            (step_with t c.args.frame c.loop-index.index (c.loop-index.index + 1) c.in_ok-generation.generation c.loop-index.lowest c.in_ok-place.place w.in-Some.role w.with_block.result
            c.in_ok-place.ensures.value refl generation (sym w.in-Some.is ∙ role) c.loop-index.invariant.found w.with_block.ensures.first w.with_block.ensures.more)
        | in_default w ↦ subst (IsFound t c.args.frame (c.loop-index.index + 1)) (sym w.lowest-is)
            (step_without t c.args.frame c.loop-index.index (c.loop-index.index + 1) c.in_ok-generation.generation c.loop-index.lowest c.in_ok-place.place
            c.loop-index-test.true c.in_ok-place.ensures.value refl generation (sym w.in_default.is ∙ role) c.loop-index.invariant.found)
      ];
    }

pub returns-clause-none : goal.returns-clause-none
returns-clause-none g c =
    subst (λ (d : DriveFields). IfNone c.loop-index.lowest (IsSparse d.store.table c.args.frame → ⊥)) c.generation.ensures.same
    (none_sparse c.generation.new.self.store.table c.args.frame c.loop-index.index c.loop-index.lowest (omega arith) c.loop-index.invariant.found)
