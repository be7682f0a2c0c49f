use Rattle.std.proofs.Common.{◌+◌, ◌∷◌, List, drop, subst, sym, ap, ◌∙◌}
use Rattle.std.proofs.lemmas.List.{drop_more}
use Rattle.object_map.specs.declared.map.Row.{Row}
use Rattle.image_objects.specs.declared.rows.ImageRow.{ImageRow}
use Rattle.migration.specs.private.Copied.{CopyingRows}
use Rattle.migration.proofs.CopiedRows.{begun, one_copied}
use Rattle.migration.proofs.objects.copy_objects.Goals as goal

pub loop-row-init : goal.loop-row-init
loop-row-init g c =
    let used = g.U.UsedBlocks.used c.args.used.now in
    let log = g.B.Blocks.log c.args.table.now in
    subst (λ (laters : List Row). CopyingRows c.args.version used c.args.clock c.args.rows.now c.args.rows.now log log laters) (sym c.new-laters.ensures.items)
    (begun c.args.version used c.args.clock c.args.rows.now log c.requires.ascend c.requires.stand c.requires.empty c.requires.room)

pub copy_object-requires-clause-nothing : goal.copy_object-requires-clause-nothing
copy_object-requires-clause-nothing g c =
    let used = g.U.UsedBlocks.used c.args.used.now in
    let rows = c.args.rows.now in
    let i = c.loop-row.row-index in
    let row = c.row-item.result in
    let split = drop_more rows i row c.loop-row-test.true ∙ ap (λ (x : ImageRow). x ∷ drop (i + 1) rows) (sym c.row-item.is) in
    let at : CopyingRows c.args.version used c.args.clock rows (row ∷ drop (i + 1) rows) (g.B.Blocks.log c.args.table.now) (g.B.Blocks.log c.loop-row.table) c.loop-row.laters.items =
    subst (λ (left : List ImageRow). CopyingRows c.args.version used c.args.clock rows left (g.B.Blocks.log c.args.table.now) (g.B.Blocks.log c.loop-row.table) c.loop-row.laters.items) split c.loop-row.invariant in
    at.nothing row.object at.ascend.0

pub loop-row-preserved : goal.loop-row-preserved
loop-row-preserved g c =
    let used = g.U.UsedBlocks.used c.args.used.now in
    let rows = c.args.rows.now in
    let i = c.loop-row.row-index in
    let row = c.row-item.result in
    let rest = drop (i + 1) rows in
    let before = g.B.Blocks.log c.args.table.now in
    let now = g.B.Blocks.log c.loop-row.table in
    let after = g.B.Blocks.log c.copy_object.new.table in
    let split = drop_more rows i row c.loop-row-test.true ∙ ap (λ (x : ImageRow). x ∷ rest) (sym c.row-item.is) in
    let at : CopyingRows c.args.version used c.args.clock rows (row ∷ rest) before now c.loop-row.laters.items =
    subst (λ (left : List ImageRow). CopyingRows c.args.version used c.args.clock rows left before now c.loop-row.laters.items) split c.loop-row.invariant in
    subst (λ (laters : List Row). CopyingRows c.args.version used c.args.clock rows rest before after laters) (sym c.in_ok-push.ensures.items)
    (one_copied c.args.version used c.args.clock rows rest row before now after c.loop-row.laters.items c.in_ok-later.later at c.in_ok-later.ensures.copied)
