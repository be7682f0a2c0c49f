use Rattle.std.proofs.Common.{◌≡◌, ℕ, ◌-◌, nat_lt, List, length, take, drop, sym, ap, subst, ◌∙◌, rules, arith}
use Rattle.std.proofs.lemmas.List.Sorted.{IsPartitionPoint-from_clause, IsPartitionedBy-ltb}
use Rattle.s4_types.specs.declared.audit_rows.AuditRow.{AuditRow}
use Rattle.s4_model.specs.Audit.{rows_from}
use Rattle.s4_model.specs.Audit.{MomentsAscend}
use Rattle.audit_log.proofs.Rows.{rises, rows_behind, from_ascends}
use Rattle.audit_log.proofs.log.AuditLog.all_from.Goals as goal

pub returns-clause-ok : goal.returns-clause-ok
returns-clause-ok c =
    let rows = c.self.inside.rows.items in
    let start = c.partition_point-start.result in
    let parted = IsPartitionedBy-ltb (λ row. row.moment) rows c.args.from (rises rows c.self.invariant) in
    let all : c.len.result ≡ length rows = omega (arith, c.len.ensures, c.self.inside.rows.ok.0) in
    let point = IsPartitionPoint-from_clause (λ row. nat_lt row.moment c.args.from) _ _ c.partition_point-start.ensures.partitioned parted (λ a r f k. search rules) in
    rw (← c.self.view_is) (c.from_vec.ensures ∙ rows_behind c.args.from rows c.in_ok-rows.rows.items start point (c.in_ok-rows.ensures.ok ∙ ap (λ (n : ℕ). take (n - start) (drop start rows)) all))

pub returns-clause-ascend : goal.returns-clause-ascend
returns-clause-ascend c =
    let rows = c.self.inside.rows.items in
    let start = c.partition_point-start.result in
    let parted = IsPartitionedBy-ltb (λ row. row.moment) rows c.args.from (rises rows c.self.invariant) in
    let all : c.len.result ≡ length rows = omega (arith, c.len.ensures, c.self.inside.rows.ok.0) in
    let point = IsPartitionPoint-from_clause (λ row. nat_lt row.moment c.args.from) _ _ c.partition_point-start.ensures.partitioned parted (λ a r f k. search rules) in
    let is : c.from_vec.result ≡ rows_from c.args.from rows = c.from_vec.ensures ∙ rows_behind c.args.from rows c.in_ok-rows.rows.items start point (c.in_ok-rows.ensures.ok ∙ ap (λ (n : ℕ). take (n - start) (drop start rows)) all) in
    subst MomentsAscend (sym is) (from_ascends c.args.from rows c.self.invariant)
