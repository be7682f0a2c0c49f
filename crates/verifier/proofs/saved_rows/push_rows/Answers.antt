use Rattle.std.proofs.Common.{◌<◌, ◌++◌, ◌∙◌, ap, length, take, arith}
use Rattle.std.specs.List.{flat_map}
use Rattle.image_parts.specs.Rows.{row_bytes}
use Rattle.verifier.proofs.Lists.{flat_more}
use Rattle.verifier.proofs.saved_rows.push_rows.Goals as goal

pub loop-row-preserved : goal.loop-row-preserved
loop-row-preserved c =
    let i = c.loop-row.row-index in
    let lt : i < length c.args.rows.now = omega arith in
    c.in_ok-push_row.ensures.items
    ∙ ap (λ b. b ++ row_bytes c.row-item.result) c.loop-row.invariant
    ∙ ap (λ r. (c.args.out.now.items ++ flat_map row_bytes (take i c.args.rows.now)) ++ row_bytes r) c.row-item.is
    ∙ flat_more row_bytes c.args.out.now.items c.args.rows.now i c.row-item.result lt
