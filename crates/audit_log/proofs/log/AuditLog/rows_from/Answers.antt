use Rattle.std.proofs.Common.{◌≡◌, ◌+◌, ◌-◌, nat_lt, length, ◌∙◌, rules, arith}
use Rattle.std.specs.Prelude.{min}
use Rattle.std.proofs.lemmas.List.Sorted.{IsPartitionPoint-from_clause, IsPartitionedBy-ltb}
use Rattle.audit_log.proofs.Rows.{rises, rows_answered}
use Rattle.audit_log.proofs.log.AuditLog.rows_from.Goals as goal

pub returns-clause-ok : goal.returns-clause-ok
returns-clause-ok c =
    let rows = c.self.inside.rows.items in
    let start = c.partition_point-before.result in
    let parted = IsPartitionedBy-ltb (λ row. row.moment) rows c.args.from (rises rows c.self.invariant) in
    let point = IsPartitionPoint-from_clause (λ row. nat_lt row.moment c.args.from) _ _ c.partition_point-before.ensures.partitioned parted (λ a r f k. search rules) in
    let count : (start + c.min.result) - start ≡ min (length rows - start) c.args.most = omega (arith, c.min.ensures, c.from.ensures, c.len.ensures, c.self.inside.rows.ok.0) in
    rw (← c.self.view_is) (c.from_vec.ensures ∙ rows_answered c.args.from rows c.in_ok-rows.rows.items start (start + c.min.result) c.args.most point count c.in_ok-rows.ensures.ok)
