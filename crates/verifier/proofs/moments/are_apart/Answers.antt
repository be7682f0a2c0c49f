use Rattle.std.proofs.Common.{arith}
use Rattle.verifier.proofs.Telling.{stands_twice}
use Rattle.verifier.proofs.moments.are_apart.Goals as goal

pub returns-then-index : goal.returns-then-index
returns-then-index c =
    stands_twice c.args.moments.items c.sort_unstable.new.self.items c.loop-index.index c.index.result.now c.index-in-loop-index.result.now
    (c.neighbours_tell_what_stands_twice.ensures c.args.moments.items c.sort_unstable.new.self.items c.sort_unstable.ensures.permutation c.sort_unstable.ensures.sorted)
    (omega arith) (omega arith) c.index.ensures c.index-in-loop-index.ensures c.if-index.true

pub returns : goal.returns
returns c =
    (c.neighbours_tell_what_stands_twice.ensures c.args.moments.items c.sort_unstable.new.self.items c.sort_unstable.ensures.permutation c.sort_unstable.ensures.sorted).1
    (λ k below. c.loop-index.invariant k (omega (arith, below, c.len-index-end.ensures, c.loop-index-test.false)))
