use Rattle.version_store.specs.Store.{IsLed}
use Rattle.image_objects.proofs.Parts.{one_more, all_taken}
use Rattle.image_objects.proofs.pointers.are_led.Goals as goal

pub loop-pointer-preserved : goal.loop-pointer-preserved
loop-pointer-preserved g c =
    one_more (IsLed (g.U.UsedBlocks.used c.args.used.now) c.args.object) c.args.pointers.now c.loop-pointer.pointer-index c.pointer-item.result c.loop-pointer-test.true c.pointer-item.is c.loop-pointer.invariant
    (c.is_led.ensures.is c.if-not-is_led.false)

pub returns-clause-is : goal.returns-clause-is
returns-clause-is g c = λ _. all_taken (IsLed (g.U.UsedBlocks.used c.args.used.now) c.args.object) c.args.pointers.now c.loop-pointer.pointer-index c.loop-pointer-test.false c.loop-pointer.invariant
