use Rattle.std.proofs.Common.{nat_le, rules}
use Rattle.std.proofs.lemmas.List.Sorted.{IsPartitionPoint-from_clause, IsPartitionedBy-leb}
use Rattle.window.proofs.Lists.{rises}
use Rattle.window.proofs.chunks.end_of.Goals as goal

pub returns-clause-point : goal.returns-clause-point
returns-clause-point c =
    let parted = IsPartitionedBy-leb (λ run. run.object) c.args.runs.now c.args.list (rises c.args.runs.now c.requires) in
    IsPartitionPoint-from_clause (λ run. nat_le run.object c.args.list) _ _ c.partition_point.ensures.partitioned parted (λ a r f k. search rules)
