use Rattle.std.proofs.Common.{rules, ◌≡◌, ℕ, max, List, map, sym, ap, ◌∙◌}
use Rattle.std.proofs.lemmas.Result.{IfOk-weaker}
use Rattle.std.specs.List.{filter_map}
use Rattle.s4_types.specs.declared.changes.Accepted.{Accepted}
use Rattle.s4_model.specs.Audit.{audit_row, row_from, rows_from}
use Rattle.s4_model.proofs.AuditLaws.{from_twice, rows_of_changes}
use Rattle.s4_model.proofs.plain.PlainDrive.rows_from.Goals as goal

pub returns-clause-ok : goal.returns-clause-ok
returns-clause-ok c =
    let changes : List Accepted = c.self.inside.changes.items in
    let floor : ℕ = c.self.inside.floor in
    let higher : c.max.result ≡ max c.args.from floor = search rules in
    rw (← c.self.view_is)
    (IfOk-weaker c.rows_from.result (λ rows. rows.items ≡ filter_map (row_from c.max.result) c.as_slice.result.now) (λ rows. rows.items ≡ rows_from c.args.from (rows_from floor (map audit_row changes)))
    (λ rows is. is ∙ rows_of_changes c.max.result c.as_slice.result.now ∙ ap (λ (t : ℕ). rows_from t (map audit_row c.as_slice.result.now)) higher ∙ ap (λ (all : List Accepted). rows_from (max c.args.from floor) (map audit_row all)) c.as_slice.ensures.value
    ∙ sym (from_twice c.args.from floor (map audit_row changes))) c.rows_from.ensures.ok)
