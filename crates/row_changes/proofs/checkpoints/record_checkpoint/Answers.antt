use Rattle.std.proofs.Common.{◌≡◌, Option, Some, rules, sym, ap, subst, ◌∙◌}
use Rattle.checkpoint.specs.Held.{checkpoint_blocks, checkpoint_places, of_checkpoints, places_named}
use Rattle.object_map.specs.declared.map.Row.{Row}
use Rattle.object_map.specs.declared.sides.Side.{Side}
use Rattle.object_map.specs.Sides.{sides_after, place_of}
use Rattle.journal_chain.proofs.Tables.{only-refl}
use Rattle.time_read.specs.Rows.{IsRow, inode_of}
use Rattle.time_read.specs.Orderly.{IsOrderly}
use Rattle.row_changes.specs.Recent.{IsBy}
use Rattle.row_changes.specs.Moved.{IsMoved}
use Rattle.row_changes.proofs.Places.{CheckpointLaws, Put, older_still, moved, put_only, taken_first}
use Rattle.row_changes.proofs.SetAside.{Parted, parted_aside, goes_there, keeps}
use Rattle.row_changes.proofs.CheckpointLemmas.{Laws, with_checkpoint, written, written_row, written_by, written_inode}
use Rattle.row_changes.proofs.OrderKept.{written_orderly}
use Rattle.row_changes.proofs.checkpoints.record_checkpoint.Given.{Over}
use Rattle.row_changes.proofs.checkpoints.record_checkpoint.Goals.{After-set_aside-gone}
use Rattle.row_changes.proofs.checkpoints.record_checkpoint.Goals as goal

-- the older checkpoint that goes, and those that stay
parts : (g : Over) (c : After-set_aside-gone g) → Parted (g.B.Blocks.log c.args.table.now).held c.args.object c.args.row.now c.args.moment c.set_aside-gone.result (sides_after c.args.row.now)
parts g c = parted_aside (g.B.Blocks.log c.args.table.now).held c.args.object c.args.row.now c.set_aside-gone.new.self c.args.moment c.set_aside-gone.result c.requires.row c.requires.latest.checkpoint c.requires.newer c.set_aside-gone.ensures.row c.set_aside-gone.ensures.all

-- the new checkpoint is put
put : (g : Over) (c : After-set_aside-gone g)
    → Put (g.B.Blocks.log c.args.table.now).held (g.B.Blocks.log c.put.new.table).held (g.B.Blocks.log c.put.new.table).held c.args.object c.in_ok-place.place (place_of c.set_aside-gone.result)
put g c =
    let known : CheckpointLaws = record {
      told = c.a_checkpoint_is_in_its_blocks.ensures.same;
      places = c.a_checkpoint_is_in_its_blocks.ensures.places;
      held = c.a_checkpoint_is_in_its_blocks.ensures.held;
    } in
    record {
      laws = known;
      there = goes_there known (g.B.Blocks.log c.args.table.now).held c.args.object c.args.row.now c.set_aside-gone.result (parts g c).goes;
      put = c.in_ok-place.ensures.growth;
      journal = only-refl c.args.object (g.B.Blocks.log c.put.new.table).held;
    }

pub returns : goal.returns
returns g c =
    let log = g.B.Blocks.log c.args.table.now in
    let between = g.B.Blocks.log c.put.new.table in
    let later = g.B.Blocks.log c.drop_side.new.table in
    let o = c.args.object in
    let row = c.args.row.now in
    let place = c.in_ok-place.place in
    let inode = c.args.inode.now in
    let m = c.args.moment in
    let gone = c.set_aside-gone.result in
    let kept = sides_after row in
    let laws : Laws = record {
      end = c.entries_determine_a_run.ensures.end;
      beginning = c.entries_determine_a_run.ensures.beginning;
      done = c.entries_determine_a_run.ensures.done;
    } in
    let at = (goal.at.returns g c).After-set_aside-gone in
    let parted = parts g at in
    let puts = put g at in
    let dropped = c.drop_side.ensures.dropped in
    let kept_all = keeps c.a_checkpoint_is_in_its_blocks.ensures.apart log.held between.held later.held o row place m gone kept c.requires.row parted puts dropped in
    let w = written log.held between.held later.held o row place inode m (place_of gone) kept c.requires.row c.requires.latest c.requires.inode puts dropped kept_all c.in_ok-place.ensures.told in
    let next = with_checkpoint row place m kept in
    let is : record (c.set_aside-gone.new.self) { checkpoint = Some place; checkpoint_moment = m } ≡ next = ap (λ (r : Row). record r { checkpoint = Some place; checkpoint_moment = m }) c.set_aside-gone.ensures.row in
    let gives = sym is in
    record {
      row = subst (λ (r : Row). IsRow later.held o r) gives (written_row log.held later.held o row place inode m kept laws w);
      latest = subst (λ (r : Row). IsBy later.held o r m) gives (written_by log.held later.held o row place inode m kept w);
      inode = λ t. subst (λ (r : Row). inode_of later.held o r t ≡ inode_of log.held o row t) gives (written_inode log.held later.held o row place inode m t kept laws w);
      orderly = λ latest le was. subst (λ (r : Row). IsOrderly later.held o r latest) gives (written_orderly log.held later.held o row place inode m latest kept laws w le was);
      fields = is;
      moved = subst (λ (gone : Option Side). IsMoved log.held (places_named (of_checkpoints o log.held) (place_of gone)) (checkpoint_places later.held o place) later.held) c.set_aside-gone.ensures.gone
          (moved log.held between.held later.held o place (place_of gone) puts dropped);
      some = search rules;
      others = put_only log.held between.held later.held o place c.in_ok-place.ensures.growth dropped.others;
      takes = taken_first log between later (checkpoint_blocks inode) g.met.B.Blocks.places_taken_add_up c.in_ok-place.ensures.takes c.drop_side.ensures.takes;
      named = c.drop_side.ensures.named ∙ c.put.ensures.named;
      answer = search rules;
      unchanged = search rules;
    }

pub drop_side-requires : goal.drop_side-requires
drop_side-requires g c =
    let log = g.B.Blocks.log c.args.table.now in
    let between = g.B.Blocks.log c.put.new.table in
    record { held = older_still log.held between.held between.held c.args.object c.in_ok-place.place (place_of c.set_aside-gone.result) (put g (goal.at.drop_side-requires g c).After-set_aside-gone) }
