use Rattle.std.proofs.Common.{rules}
use Rattle.std.specs.Prelude.{nat_le}
use Rattle.std.proofs.lemmas.List.Sorted.{IsPartitionPoint-from_clause, IsPartitionedBy-leb}
use Rattle.time_read.proofs.undo_records.count_up_to.Goals as goal

pub returns-clause-point : goal.returns-clause-point
returns-clause-point c = λ rises.
    IsPartitionPoint-from_clause (λ r. nat_le r.moment c.args.at) _ _ c.partition_point.ensures.partitioned (IsPartitionedBy-leb (λ r. r.moment) c.args.records.now c.args.at rises) (λ a r f k. search rules)
