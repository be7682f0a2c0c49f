use Rattle.std.proofs.Common.{◌∙◌, ◌+◌, ◌++◌, List, [], ◌∷◌, take, sym, ap, subst}
use Rattle.std.proofs.lemmas.List.{take_all, take_more}
use Rattle.object_map.specs.Objects.{value_of}
use Rattle.segment_table.specs.Used.{used_at}
use Rattle.image_parts.specs.declared.rows.RowPart.{RowPart}
use Rattle.image_salvage.specs.private.Passing.{AreLeft}
use Rattle.image_salvage.proofs.Passing.{left_more}
use Rattle.image_salvage.proofs.unlisted.pass_rows.Goals as goal

pub loop-row-preserved : goal.loop-row-preserved
loop-row-preserved c =
    let rows = c.args.rows.now in
    let n = c.loop-row.row-index in
    left_more (used_at c.args.table.now) (take n rows) (take (n + 1) rows) c.row-item.result (value_of c.args.heads.now.entries) (value_of c.loop-row.heads.entries) (value_of c.pass_row.new.heads.entries)
    (take_more rows n c.row-item.result c.loop-row-test.true ∙ ap (λ (part : RowPart). take n rows ++ part ∷ []) (sym c.row-item.is)) c.loop-row.invariant c.in_ok-pass_row.ensures.left

pub returns-clause-left : goal.returns-clause-left
returns-clause-left c =
    subst (λ (rows : List RowPart). AreLeft (used_at c.args.table.now) rows (value_of c.args.heads.now.entries) (value_of c.loop-row.heads.entries)) (take_all c.loop-row.row-index c.args.rows.now c.loop-row-test.false) c.loop-row.invariant
