use Rattle.std.proofs.Common.{rules}
use Rattle.std.proofs.lemmas.List.Sorted.{IsPartitionPoint-from_clause}
use Rattle.window.specs.Runs.{is_before}
use Rattle.window.proofs.Ordering.{before_in_front}
use Rattle.window.proofs.runs.count_before.Goals as goal

pub returns-clause-point : goal.returns-clause-point
returns-clause-point c =
    IsPartitionPoint-from_clause (λ run. is_before run c.args.span.now) _ _ c.partition_point.ensures.partitioned (before_in_front c.args.span.now c.args.runs.now c.requires) (λ a r f k. search rules)
