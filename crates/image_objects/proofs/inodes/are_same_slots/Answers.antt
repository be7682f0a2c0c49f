use Rattle.std.proofs.Common.{None, arith}
use Rattle.std.proofs.lemmas.List.{ext_get_or}
use Rattle.image_objects.proofs.inodes.are_same_slots.Goals as goal

pub returns-clause-is : goal.returns-clause-is
returns-clause-is c = λ good. ext_get_or None c.args.one.now c.args.other.now c.requires (λ i lt. c.loop-index.invariant i (let past = c.loop-index-test.false in omega (arith, lt, past)))
