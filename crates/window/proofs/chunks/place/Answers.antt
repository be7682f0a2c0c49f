use Rattle.std.proofs.Common.{nat_lt, rules}
use Rattle.std.proofs.lemmas.List.Sorted.{IsPartitionPoint-from_clause, IsPartitionedBy-ltb}
use Rattle.window.proofs.Chunked.{chunks_rise}
use Rattle.window.proofs.chunks.place.Goals as goal

pub returns : goal.returns
returns c =
    let parted = IsPartitionedBy-ltb (λ chunk. chunk.up_to) c.args.chunks.now c.args.list (chunks_rise 0 c.args.chunks.now c.requires) in
    IsPartitionPoint-from_clause (λ chunk. nat_lt chunk.up_to c.args.list) _ _ c.partition_point.ensures.partitioned parted (λ a r f k. search rules)
