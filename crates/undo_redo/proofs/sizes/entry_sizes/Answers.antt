use Rattle.std.proofs.Common.{◌≡◌, ◌+◌, ◌*◌, ◌-◌, min, arith}
use Rattle.s4_types.specs.declared.limits.TheConstants.{SHORTEST_ENTRY_BYTES, TRIPLE_BYTES, ENTRY_TRIPLES}
use Rattle.undo_redo.proofs.BetweenLaws.{sizes_told}
use Rattle.undo_redo.proofs.sizes.entry_sizes.Goals as goal

pub returns : goal.returns
returns c =
    let is : SHORTEST_ENTRY_BYTES + c.args.pair_bytes + TRIPLE_BYTES * c.min.result ≡ SHORTEST_ENTRY_BYTES + c.args.pair_bytes + TRIPLE_BYTES * min ENTRY_TRIPLES c.args.triples = omega (arith, c.min.ensures) in
    let cut : c.saturating_sub.result ≡ c.args.triples - ENTRY_TRIPLES = omega (arith, c.saturating_sub.ensures) in
    sizes_told c.args.triples c.args.pair_bytes (SHORTEST_ENTRY_BYTES + c.args.pair_bytes + TRIPLE_BYTES * c.min.result) c.saturating_sub.result c.new-sizes.result.items c.push.new.self.items c.push_later.new.sizes.items c.new-sizes.ensures c.push.ensures.items c.push_later.ensures is cut
