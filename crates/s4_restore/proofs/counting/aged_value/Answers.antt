use Rattle.std.proofs.Common.{refl}
use Rattle.s4_restore.proofs.counting.aged_value.Goals as goal

pub returns : goal.returns
returns c =
    let aged = c.with_text-made.ensures _ _ c.no_members.ensures refl in
    c.object_of.ensures _ (c.with_number.ensures _ _ aged refl)
