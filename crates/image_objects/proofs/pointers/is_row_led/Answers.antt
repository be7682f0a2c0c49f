use Rattle.lemmas.proofs.List.{all_front, all_back}
use Rattle.image_objects.specs.Inodes.{checkpoint_used}
use Rattle.version_store.specs.Store.{IsLed, pointers_kept, sides_told}
use Rattle.image_objects.proofs.pointers.is_row_led.Goals as goal

pub returns-then-is_checkpoint_led-clause-only : goal.returns-then-is_checkpoint_led-clause-only
returns-then-is_checkpoint_led-clause-only g c = λ h.
    let used = g.U.UsedBlocks.used c.args.used.now in
    c.are_entries_led.ensures.only (all_back (IsLed used c.args.row.now.object) (pointers_kept (checkpoint_used used c.args.row.now)) (sides_told c.args.entries.now) h)

pub returns-else-is_checkpoint_led-clause-only : goal.returns-else-is_checkpoint_led-clause-only
returns-else-is_checkpoint_led-clause-only g c = λ h.
    let used = g.U.UsedBlocks.used c.args.used.now in
    c.is_checkpoint_led.ensures.only (all_front (IsLed used c.args.row.now.object) (pointers_kept (checkpoint_used used c.args.row.now)) (sides_told c.args.entries.now) h)
