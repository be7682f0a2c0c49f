use Rattle.std.proofs.Common.{◌++◌, List, sym, ap, ◌∙◌}
use Rattle.s4_types.specs.Pointer.{Place}
use Rattle.checkpoint.specs.Held.{checkpoint_blocks, checkpoint_places}
use Rattle.journal_chain.proofs.Tables.{only-refl}
use Rattle.row_changes.proofs.Places.{CheckpointLaws, Put, older_there, older_still, checkpoint_alone, told_on, new_alone, new_among, new_places, put_only, taken_first}
use Rattle.row_changes.proofs.writing.put_anew.Goals as goal

pub drop_checkpoint-requires : goal.drop_checkpoint-requires
drop_checkpoint-requires g c =
    let log = g.B.Blocks.log c.args.table.now in
    let between = g.B.Blocks.log c.put_ahead-place.new.table in
    let o = c.args.object in
    let row = c.args.row.now in
    let known : CheckpointLaws = record {
      told = c.a_checkpoint_is_in_its_blocks.ensures.same;
      places = c.a_checkpoint_is_in_its_blocks.ensures.places;
      held = c.a_checkpoint_is_in_its_blocks.ensures.held;
    } in
    let s : Put log.held between.held between.held o c.put_ahead-place.result row.checkpoint = record {
      laws = known;
      there = older_there known log.held o row c.requires.row;
      put = c.put_ahead-place.ensures.growth;
      journal = only-refl o between.held;
    } in
    record { held = older_still log.held between.held between.held o c.put_ahead-place.result row.checkpoint s }

pub returns : goal.returns
returns g c =
    let log = g.B.Blocks.log c.args.table.now in
    let between = g.B.Blocks.log c.put_ahead-place.new.table in
    let after = g.B.Blocks.log c.drop_checkpoint.new.table in
    let o = c.args.object in
    let row = c.args.row.now in
    let place = c.put_ahead-place.result in
    let inode = c.args.inode.now in
    let known : CheckpointLaws = record {
      told = c.a_checkpoint_is_in_its_blocks.ensures.same;
      places = c.a_checkpoint_is_in_its_blocks.ensures.places;
      held = c.a_checkpoint_is_in_its_blocks.ensures.held;
    } in
    let s : Put log.held between.held between.held o place row.checkpoint = record {
      laws = known;
      there = older_there known log.held o row c.requires.row;
      put = c.put_ahead-place.ensures.growth;
      journal = only-refl o between.held;
    } in
    let d = c.drop_checkpoint.ensures.dropped in
    let only = checkpoint_alone log.held o row c.requires.row c.requires.sides in
    record {
      told = told_on log.held between.held between.held after.held o place row.checkpoint (record { object = o; moment = c.args.moment; inode = inode }) s d c.put_ahead-place.ensures.told;
      only = new_alone log.held between.held between.held after.held o place row.checkpoint s d only;
      places = new_among (checkpoint_blocks inode) log between after o place row.checkpoint s d only c.put_ahead-place.ensures.takes;
      order = c.put_ahead-place.ensures.order
          ∙ ap (λ (ps : List Place). ps ++ between.ahead) (sym (new_places log.held between.held between.held after.held o place row.checkpoint s d))
          ∙ ap (λ (ps : List Place). checkpoint_places after.held o place ++ ps) (sym c.drop_checkpoint.ensures.takes.ahead);
      others = put_only log.held between.held after.held o place c.put_ahead-place.ensures.growth d.others;
      takes = taken_first log between after (checkpoint_blocks inode) g.met.B.Blocks.places_taken_add_up c.put_ahead-place.ensures.takes c.drop_checkpoint.ensures.takes;
      named = c.drop_checkpoint.ensures.named ∙ c.put_ahead-place.ensures.named;
    }
