use Rattle.std.proofs.Common.{rules, ◌≡◌, ℕ, ◌+◌, ◌<◌, List, length, drop, None, refl, sym, ap, subst, ◌∙◌}
use Rattle.object_map.specs.Rows.{row_of}
use Rattle.segment_table.specs.Room.{log_of}
use Rattle.version_store.specs.Store.{fields_of}
use Rattle.version_store.specs.Tallies.{AreTallies}
use Rattle.version_store.proofs.Tallying.{all_taken, within_then, room_then, more_then, all_then, tallies_none}
use Rattle.version_store.proofs.store.tallying.Store+NamedTable+J.recount.Goals as goal

pub loop-object-init : goal.loop-object-init
loop-object-init g c =
    let v = c.args.self.now in
    record {
      tallies = subst (λ (n : ℕ). AreTallies v.table (fields_of log_of v) (n + 1) c.in_ok-tallies.tallies.items) (sym c.new-last.ensures)
          (tallies_none c.one_place_has_one_name.ensures c.a_checkpoint_is_in_its_blocks.ensures.held c.a_checkpoint_is_in_its_blocks.ensures.once c.a_checkpoint_is_in_its_blocks.ensures.apart v c.requires (record { frames = c.frame_rules.ensures.sizes.1; few = λ f inside. (c.frame_rules.ensures.fit f inside).few })
          c.in_ok-tallies.tallies.items c.in_ok-tallies.ensures.zeros);
      same = refl;
    }

pub tally-requires-clause-within : goal.tally-requires-clause-within
tally-requires-clause-within g c =
    within_then c.one_place_has_one_name.ensures c.a_checkpoint_is_in_its_blocks.ensures.held c.a_checkpoint_is_in_its_blocks.ensures.once c.a_checkpoint_is_in_its_blocks.ensures.apart c.args.self.now c.requires (record { frames = c.frame_rules.ensures.sizes.1; few = λ f inside. (c.frame_rules.ensures.fit f inside).few })
    c.loop-object.self c.in-Some.object (length c.as_mut_slice.result.now) c.as_slice.result.now c.loop-object.invariant.same
    (ap length c.as_mut_slice.ensures.value ∙ c.loop-object.invariant.tallies.count)
    (c.as_slice.ensures.value ∙ c.in_ok-pointers.ensures.pointers)

pub tally-requires-clause-room : goal.tally-requires-clause-room
tally-requires-clause-room g c =
    let v = c.args.self.now in
    room_then c.one_place_has_one_name.ensures c.a_checkpoint_is_in_its_blocks.ensures.held c.a_checkpoint_is_in_its_blocks.ensures.once c.a_checkpoint_is_in_its_blocks.ensures.apart v c.requires (record { frames = c.frame_rules.ensures.sizes.1; few = λ f inside. (c.frame_rules.ensures.fit f inside).few })
    c.loop-object.self c.loop-object.last c.in-Some.object c.as_mut_slice.result.now c.as_slice.result.now c.loop-object.invariant.same c.in-Some.ensures.some
    (subst (λ (l : List ℕ). AreTallies v.table (fields_of log_of v) (c.loop-object.last + 1) l) (sym c.as_mut_slice.ensures.value) c.loop-object.invariant.tallies)
    (c.as_slice.ensures.value ∙ c.in_ok-pointers.ensures.pointers)

pub loop-object-preserved : goal.loop-object-preserved
loop-object-preserved g c =
    let v = c.args.self.now in
    record {
      tallies = subst (λ (l : List ℕ). AreTallies v.table (fields_of log_of v) (c.in-Some.object + 1) l)
          (all_taken c.loop-object.tallies.len c.tally.new.tallies (drop (length c.tally.new.tallies) c.loop-object.tallies.items) (c.tally.ensures.count ∙ c.as_mut_slice.ensures.len))
          (more_then c.one_place_has_one_name.ensures c.a_checkpoint_is_in_its_blocks.ensures.held c.a_checkpoint_is_in_its_blocks.ensures.once c.a_checkpoint_is_in_its_blocks.ensures.apart v c.requires (record { frames = c.frame_rules.ensures.sizes.1; few = λ f inside. (c.frame_rules.ensures.fit f inside).few })
          c.loop-object.self c.loop-object.last c.in-Some.object c.as_mut_slice.result.now c.tally.new.tallies c.as_slice.result.now c.loop-object.invariant.same c.in-Some.ensures.some
          (subst (λ (l : List ℕ). AreTallies v.table (fields_of log_of v) (c.loop-object.last + 1) l) (sym c.as_mut_slice.ensures.value) c.loop-object.invariant.tallies)
          (c.as_slice.ensures.value ∙ c.in_ok-pointers.ensures.pointers)
          c.tally.ensures);
      same = c.in_ok-pointers.ensures.same ∙ c.loop-object.invariant.same;
    }

pub returns-clause-tallies : goal.returns-clause-tallies
returns-clause-tallies g c = λ n none.
    let above : (q : ℕ) → c.loop-object.last < q → row_of c.loop-object.self.rows q ≡ None = search rules in
    all_then c.one_place_has_one_name.ensures c.a_checkpoint_is_in_its_blocks.ensures.held c.a_checkpoint_is_in_its_blocks.ensures.once c.a_checkpoint_is_in_its_blocks.ensures.apart c.args.self.now c.requires (record { frames = c.frame_rules.ensures.sizes.1; few = λ f inside. (c.frame_rules.ensures.fit f inside).few })
    c.loop-object.self c.loop-object.last n c.loop-object.tallies.items c.loop-object.invariant.same above none c.loop-object.invariant.tallies
