use Rattle.std.proofs.Common.{◌++◌, ◌∙◌, List, Option, Some, refl, sym, ap, subst, append-nil}
use Rattle.std.proofs.lemmas.List.{take_all}
use Rattle.std.proofs.lemmas.List.Elements.{All-contains}
use Rattle.s4_types.specs.Pointer.{Place}
use Rattle.lemmas.proofs.List.{flat_map_next}
use Rattle.block_log.specs.Log.{Log}
use Rattle.checkpoint.specs.Held.{checkpoint_held, HasItsBlocks}
use Rattle.object_map.specs.declared.sides.Side.{Side}
use Rattle.version_store.specs.Store.{pointers_kept, pointers_of_sides}
use Rattle.version_store.proofs.row_places.add_aside.Goals as goal

pub loop-side-init : goal.loop-side-init
loop-side-init g c = record { added = sym (append-nil c.args.pointers.now.items); same = refl }

pub add_side-requires : goal.add_side-requires
add_side-requires g c =
    let log = g.B.Blocks.log in
    subst (λ (l : Log). HasItsBlocks l.held c.args.object (Some c.side-item.result.place)) (sym c.loop-side.invariant.same)
    (All-contains (λ (side : Side). HasItsBlocks (log c.args.table.now).held c.args.object (Some side.place)) c.args.sides.now c.side-item.result c.requires (c.loop-side.side-index, c.loop-side-test.true, sym c.side-item.is))

pub loop-side-preserved : goal.loop-side-preserved
loop-side-preserved g c =
    let log = g.B.Blocks.log in
    let piece : Side → List (Option Place) = λ side. pointers_kept (checkpoint_held (log c.args.table.now).held c.args.object side.place) in
    record {
      added = flat_map_next piece c.args.sides.now c.loop-side.side-index c.side-item.result c.args.pointers.now.items c.loop-side.pointers.items _ c.loop-side-test.true c.side-item.is c.loop-side.invariant.added
          (c.in_ok-add_side.ensures.added ∙ ap (λ (l : Log). c.loop-side.pointers.items ++ pointers_kept (checkpoint_held l.held c.args.object c.side-item.result.place)) c.loop-side.invariant.same);
      same = c.in_ok-add_side.ensures.same ∙ c.loop-side.invariant.same;
    }

pub returns-clause-added : goal.returns-clause-added
returns-clause-added g c =
    let held = (g.B.Blocks.log c.args.table.now).held in
    c.loop-side.invariant.added
    ∙ ap (λ (sides : List Side). c.args.pointers.now.items ++ pointers_of_sides held c.args.object sides) (take_all c.loop-side.side-index c.args.sides.now c.loop-side-test.false)
