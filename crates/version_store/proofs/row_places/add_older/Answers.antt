use Rattle.std.proofs.Common.{◌++◌, ◌∙◌, map, List, Option, Some, refl, sym, ap, subst, append-nil}
use Rattle.std.specs.List.{flat_map}
use Rattle.std.proofs.lemmas.List.{take_all}
use Rattle.std.proofs.lemmas.List.Elements.{All-contains}
use Rattle.s4_types.specs.Pointer.{Place}
use Rattle.lemmas.proofs.List.{flat_map_next}
use Rattle.block_log.specs.Log.{Log}
use Rattle.checkpoint.specs.Held.{of_checkpoints, places_in, HasItsBlocks}
use Rattle.object_map.specs.declared.sides.Side.{Side}
use Rattle.version_store.proofs.Listing.{sides_mapped}
use Rattle.version_store.proofs.row_places.add_older.Goals as goal

pub loop-side-init : goal.loop-side-init
loop-side-init g c = record { added = sym (append-nil c.args.pointers.now.items); same = refl }

pub add_places-requires : goal.add_places-requires
add_places-requires g c =
    let log = g.B.Blocks.log in
    record {
      held = subst (λ (l : Log). HasItsBlocks l.held c.args.object (Some c.side-item.result.place)) (sym c.loop-side.invariant.same)
          (All-contains (λ (side : Side). HasItsBlocks (log c.args.table.now).held c.args.object (Some side.place)) c.args.sides.now c.side-item.result c.requires (c.loop-side.side-index, c.loop-side-test.true, sym c.side-item.is));
    }

pub loop-side-preserved : goal.loop-side-preserved
loop-side-preserved g c =
    let log = g.B.Blocks.log in
    let piece : Side → List (Option Place) = λ side. map Some (places_in (of_checkpoints c.args.object (log c.args.table.now).held) side.place) in
    record {
      added = flat_map_next piece c.args.sides.now c.loop-side.side-index c.side-item.result c.args.pointers.now.items c.loop-side.pointers.items _ c.loop-side-test.true c.side-item.is c.loop-side.invariant.added
          (c.in_ok-add_places.ensures.added ∙ ap (λ (l : Log). c.loop-side.pointers.items ++ map Some (places_in (of_checkpoints c.args.object l.held) c.side-item.result.place)) c.loop-side.invariant.same);
      same = c.in_ok-add_places.ensures.same ∙ c.loop-side.invariant.same;
    }

pub returns-clause-added : goal.returns-clause-added
returns-clause-added g c =
    let view = of_checkpoints c.args.object (g.B.Blocks.log c.args.table.now).held in
    c.loop-side.invariant.added
    ∙ ap (λ (sides : List Side). c.args.pointers.now.items ++ flat_map (λ side. map Some (places_in view side.place)) sides) (take_all c.loop-side.side-index c.args.sides.now c.loop-side-test.false)
    ∙ ap (λ (l : List (Option Place)). c.args.pointers.now.items ++ l) (sides_mapped view c.args.sides.now)
