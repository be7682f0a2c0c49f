use Rattle.std.proofs.Common.{◌≡◌, ◌+◌, ◌*◌, ◌-◌, ◌<◌, min, arith}
use Rattle.s4_types.specs.declared.limits.TheConstants.{ENTRY_TRIPLES, SHORTEST_ENTRY_BYTES, TRIPLE_BYTES}
use Rattle.undo_redo.proofs.BetweenLaws.{next_size, all_sizes}
use Rattle.undo_redo.proofs.sizes.push_later.Goals as goal

pub loop-rest-preserved : goal.loop-rest-preserved
loop-rest-preserved c =
    let some : 0 < c.loop-rest.rest = omega arith in
    let cut : c.saturating_sub-rest.result ≡ c.loop-rest.rest - ENTRY_TRIPLES = omega (arith, c.saturating_sub-rest.ensures) in
    let is : SHORTEST_ENTRY_BYTES + TRIPLE_BYTES * c.min.result ≡ SHORTEST_ENTRY_BYTES + TRIPLE_BYTES * min ENTRY_TRIPLES c.loop-rest.rest = omega (arith, c.min.ensures) in
    record {
      room = omega (arith, cut, some, c.push.ensures.len, c.loop-rest.invariant.room);
      items = next_size c.loop-rest.sizes.items c.push.new.self.items _ c.loop-rest.rest c.saturating_sub-rest.result (SHORTEST_ENTRY_BYTES + TRIPLE_BYTES * c.min.result) some cut is c.push.ensures.items c.loop-rest.invariant.items;
    }

pub returns : goal.returns
returns c = all_sizes c.loop-rest.sizes.items _ c.loop-rest.rest (omega arith) c.loop-rest.invariant.items
