use Rattle.std.proofs.Common.{take}
use Rattle.std.specs.List.{All}
use Rattle.version_store.specs.Store.{IsLed, sides_told}
use Rattle.image_objects.proofs.pointers.are_entries_led.Given as goal

abbrev pub invariant-loop-entry : goal.invariant-loop-entry
invariant-loop-entry g l = All (IsLed (g.U.UsedBlocks.used l.used) l.object) (sides_told (take l.entry-index l.entries))
