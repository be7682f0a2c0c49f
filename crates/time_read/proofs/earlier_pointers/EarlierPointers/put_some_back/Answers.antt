use Rattle.std.proofs.Common.{◌≡◌, length, min, drop, arith}
use Rattle.time_read.proofs.Before.{put_back_within, put_back_some}
use Rattle.time_read.proofs.earlier_pointers.EarlierPointers.put_some_back.Goals as goal

pub returns-clause-within : goal.returns-clause-within
returns-clause-within c =
    let end : c.min-end.result ≡ min c.args.needed.end (length c.args.pointers.now) = omega (arith, c.min-end.ensures, c.told-pointers) in
    put_back_within (drop c.args.first c.args.self.now) c.args.needed c.loop-index.index c.min-end.result c.args.pointers.now c.loop-index.pointers c.loop-index.invariant end c.loop-index-test.false

pub returns-clause-either : goal.returns-clause-either
returns-clause-either c = put_back_some (drop c.args.first c.args.self.now) c.args.needed.first c.loop-index.index c.args.pointers.now c.loop-index.pointers c.loop-index.invariant

pub returns-clause-count : goal.returns-clause-count
returns-clause-count c = c.loop-index.invariant.count
