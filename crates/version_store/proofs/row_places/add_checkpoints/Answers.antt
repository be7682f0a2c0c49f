use Rattle.std.proofs.Common.{◌++◌, ◌∙◌, map, List, Option, Some, sym, ap, subst}
use Rattle.std.specs.List.{All}
use Rattle.std.proofs.lemmas.List.{map-append}
use Rattle.s4_types.specs.Pointer.{Place}
use Rattle.block_log.specs.Log.{Log}
use Rattle.checkpoint.specs.Held.{of_checkpoints, HasItsBlocks}
use Rattle.object_map.specs.declared.sides.Side.{Side}
use Rattle.time_read.specs.Rows.{checkpoint_places_of, side_places}
use Rattle.version_store.proofs.Naming.{checkpoint_there}
use Rattle.version_store.proofs.Listing.{older_have, joined_twice}
use Rattle.version_store.proofs.row_places.add_checkpoints.Goals as goal

pub add_newest-requires : goal.add_newest-requires
add_newest-requires g c = checkpoint_there c.a_checkpoint_is_in_its_blocks.ensures.held (g.B.Blocks.log c.args.table.now).held c.args.object c.args.row.now c.requires

pub add_older-requires : goal.add_older-requires
add_older-requires g c =
    subst (λ (l : Log). All (λ (side : Side). HasItsBlocks l.held c.args.object (Some side.place)) c.as_slice.result.now) (sym c.in_ok-add_newest.ensures.same)
    (subst (All (λ (side : Side). HasItsBlocks (g.B.Blocks.log c.args.table.now).held c.args.object (Some side.place))) (sym c.as_slice.ensures.value)
    (older_have c.a_checkpoint_is_in_its_blocks.ensures.held (g.B.Blocks.log c.args.table.now).held c.args.object c.args.row.now c.requires))

pub returns-clause-added : goal.returns-clause-added
returns-clause-added g c =
    let held = (g.B.Blocks.log c.args.table.now).held in
    let o = c.args.object in
    let row = c.args.row.now in
    joined_twice c.args.pointers.now.items (map Some (checkpoint_places_of held o row)) (map Some (side_places (of_checkpoints o held) row.sides)) _ _ c.in_ok-add_newest.ensures.added
    (c.in_ok-add_older.ensures.added
    ∙ ap (λ (l : Log). c.add_newest.new.pointers.items ++ map Some (side_places (of_checkpoints o l.held) c.as_slice.result.now)) c.in_ok-add_newest.ensures.same
    ∙ ap (λ (sides : List Side). c.add_newest.new.pointers.items ++ map Some (side_places (of_checkpoints o held) sides)) c.as_slice.ensures.value)
    ∙ ap (λ (l : List (Option Place)). c.args.pointers.now.items ++ l) (sym (map-append Some (checkpoint_places_of held o row) (side_places (of_checkpoints o held) row.sides)))
