use Rattle.std.proofs.Common.{◌≡◌, rules, ◌∙◌, ◌++◌, [], ap, List}
use Rattle.std.proofs.lemmas.Fn.{filter_same}
use Rattle.s4_types.specs.declared.audit_rows.AuditRow.{AuditRow}
use Rattle.s4_model.specs.Audit.{is_from, rows_from}
use Rattle.verifier.proofs.seen_parts.rows_from.Goals as goal

pub returns-clause-ok : goal.returns-clause-ok
returns-clause-ok c =
    let none : c.new-left.result.items ≡ [] = search rules in
    filter_same _ (is_from c.args.from) _ (λ x b q r. (search rules, search rules)) _ _ c.retain.ensures.filtered
    ∙ ap (λ (rows : List AuditRow). rows_from c.args.from rows) c.in_ok-extend_from_slice.ensures.items
    ∙ ap (λ (rows : List AuditRow). rows_from c.args.from (rows ++ c.args.rows.now)) none
