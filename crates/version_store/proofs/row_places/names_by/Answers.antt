use Rattle.std.proofs.Common.{◌++◌, ◌∙◌, List, Option, Some, sym, ap, subst}
use Rattle.std.specs.List.{All}
use Rattle.s4_types.specs.Pointer.{Place}
use Rattle.block_log.specs.Log.{Log}
use Rattle.checkpoint.specs.Held.{HasItsBlocks}
use Rattle.object_map.specs.declared.sides.Side.{Side}
use Rattle.version_store.specs.Store.{pointers_of, pointers_of_sides}
use Rattle.version_store.proofs.Listing.{older_have}
use Rattle.version_store.proofs.row_places.names_by.Goals as goal

pub add_aside-requires : goal.add_aside-requires
add_aside-requires g c =
    subst (λ (l : Log). All (λ (side : Side). HasItsBlocks l.held c.args.object (Some side.place)) c.as_slice.result.now) (sym c.in_ok-names.ensures.same)
    (subst (All (λ (side : Side). HasItsBlocks (g.B.Blocks.log c.args.table.now).held c.args.object (Some side.place))) (sym c.as_slice.ensures.value)
    (older_have c.a_checkpoint_is_in_its_blocks.ensures.held (g.B.Blocks.log c.args.table.now).held c.args.object c.args.row.now c.requires.row))

pub returns-clause-names : goal.returns-clause-names
returns-clause-names g c =
    let held = (g.B.Blocks.log c.args.table.now).held in
    c.in_ok-add_aside.ensures.added
    ∙ ap (λ (l : List (Option Place)). l ++ pointers_of_sides (g.B.Blocks.log c.pointers_by.new.table).held c.args.object c.as_slice.result.now) c.in_ok-names.ensures.pointers
    ∙ ap (λ (l : Log). pointers_of held c.args.object c.args.row.now ++ pointers_of_sides l.held c.args.object c.as_slice.result.now) c.in_ok-names.ensures.same
    ∙ ap (λ (sides : List Side). pointers_of held c.args.object c.args.row.now ++ pointers_of_sides held c.args.object sides) c.as_slice.ensures.value
