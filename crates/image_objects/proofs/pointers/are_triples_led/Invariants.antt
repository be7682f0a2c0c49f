use Rattle.std.proofs.Common.{take}
use Rattle.std.specs.List.{All}
use Rattle.version_store.specs.Store.{IsLed, sides_of}
use Rattle.image_objects.proofs.pointers.are_triples_led.Given as goal

abbrev pub invariant-loop-triple : goal.invariant-loop-triple
invariant-loop-triple g l = All (IsLed (g.U.UsedBlocks.used l.used) l.object) (sides_of (take l.triple-index l.triples))
