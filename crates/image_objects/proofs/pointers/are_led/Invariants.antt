use Rattle.std.proofs.Common.{take}
use Rattle.std.specs.List.{All}
use Rattle.version_store.specs.Store.{IsLed}
use Rattle.image_objects.proofs.pointers.are_led.Given as goal

abbrev pub invariant-loop-pointer : goal.invariant-loop-pointer
invariant-loop-pointer g l = All (IsLed (g.U.UsedBlocks.used l.used) l.object) (take l.pointer-index l.pointers)
