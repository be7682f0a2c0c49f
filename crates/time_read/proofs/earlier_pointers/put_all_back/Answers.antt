use Rattle.std.proofs.Common.{arith}
use Rattle.time_read.proofs.Before.{back_none, back_on}
use Rattle.time_read.proofs.earlier_pointers.put_all_back.Goals as goal

pub loop-place-init : goal.loop-place-init
loop-place-init c = record { high = omega arith; back = back_none c.args.indices.now c.args.befores.now c.args.pointers.now c.requires.same }

pub loop-place-preserved : goal.loop-place-preserved
loop-place-preserved c = record {
  high = omega arith;
  back = back_on c.args.indices.now c.args.befores.now c.loop-place.place 0 c.index-befores-place.result c.args.pointers.now c.loop-place.pointers c.requires.same c.loop-place-test.true c.loop-place.invariant.high c.index-befores-place.is
      c.loop-place.invariant.back;
}
