use Rattle.std.proofs.Common.{◌<◌, ◌++◌, ◌∙◌, ap, get_or, length, sym, take, arith}
use Rattle.std.specs.List.{flat_map}
use Rattle.image_parts.specs.Audit.{audit_bytes}
use Rattle.std.proofs.lemmas.List.{flat_map_more, take_more}
use Rattle.migration.proofs.writing.push_audits.Goals as goal

pub loop-row-preserved : goal.loop-row-preserved
loop-row-preserved c =
    let i = c.loop-row.row-index in
    let lt : i < length c.args.rows.now = omega arith in
    c.in_ok-push_audit.ensures.items
    ∙ ap (λ b. b ++ audit_bytes c.row-item.result) c.loop-row.invariant
    ∙ ap (λ r. (c.args.out.now.items ++ flat_map audit_bytes (take i c.args.rows.now)) ++ audit_bytes r) c.row-item.is
    ∙ flat_map_more audit_bytes c.args.out.now.items (take i c.args.rows.now) (get_or c.args.rows.now i c.row-item.result)
    ∙ ap (λ rows. c.args.out.now.items ++ flat_map audit_bytes rows) (sym (take_more c.args.rows.now i c.row-item.result lt))
