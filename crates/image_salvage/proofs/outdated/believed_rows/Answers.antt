use Rattle.std.proofs.Common.{◌∙◌, ◌++◌, List, [], ◌∷◌, take, sym, ap, subst}
use Rattle.std.proofs.lemmas.List.{take_all, take_more}
use Rattle.object_map.specs.Objects.{value_of}
use Rattle.segment_table.specs.Used.{used_at}
use Rattle.image_parts.specs.declared.rows.RowPart.{RowPart}
use Rattle.image_salvage.specs.Outdated.{AreBelieved}
use Rattle.image_salvage.proofs.Believing.{believed_more}
use Rattle.image_salvage.proofs.outdated.believed_rows.Goals as goal

pub loop-row-preserved : goal.loop-row-preserved
loop-row-preserved c =
    let rows = c.args.rows.now in
    let n = c.loop-row.row-index in
    subst (λ (l : List RowPart). AreBelieved (used_at c.args.table.now) (value_of c.args.heads.now.entries) l c.believe.new.believed.items)
    (sym (take_more rows n c.row-item.result c.loop-row-test.true ∙ ap (λ (part : RowPart). take n rows ++ part ∷ []) (sym c.row-item.is)))
    (believed_more (used_at c.args.table.now) (value_of c.args.heads.now.entries) (take n rows) c.row-item.result c.loop-row.believed.items c.believe.new.believed.items c.loop-row.invariant c.in_ok-believe.ensures.believes)

pub returns-clause-believed : goal.returns-clause-believed
returns-clause-believed c =
    subst (λ (rows : List RowPart). AreBelieved (used_at c.args.table.now) (value_of c.args.heads.now.entries) rows c.loop-row.believed.items) (take_all c.loop-row.row-index c.args.rows.now c.loop-row-test.false) c.loop-row.invariant
