use Rattle.std.proofs.Common.{◌+◌, ◌∷◌, List, drop, subst, sym, ap, ◌∙◌}
use Rattle.std.proofs.lemmas.List.{drop_more}
use Rattle.s4_types.specs.Pointer.{Place}
use Rattle.migration.specs.private.Copying.{Copying}
use Rattle.migration.proofs.copies.copy_data.Goals as goal

pub loop-place-preserved : goal.loop-place-preserved
loop-place-preserved g c =
    let log = g.B.Blocks.log in
    let used = g.U.UsedBlocks.used c.args.used.now in
    let o = c.args.object in
    let places = c.args.places.now in
    let i = c.loop-place.place-index in
    let place = c.place-item.result in
    let rest = drop (i + 1) places in
    let split = drop_more places i place c.loop-place-test.true ∙ ap (λ (x : Place). x ∷ rest) (sym c.place-item.is) in
    c.in_ok-copy_block.ensures.copying places rest i (log c.args.table.now)
    (subst (λ (left : List Place). Copying used o places left i (log c.args.table.now) (log c.loop-place.table) c.loop-place.moves.items) split c.loop-place.invariant)
