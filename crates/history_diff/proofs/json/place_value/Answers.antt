use Rattle.std.proofs.Common.{refl}
use Rattle.history_diff.proofs.json.place_value.Goals as goal

pub returns : goal.returns
returns c = c.object_of.ensures _ (c.with_number.ensures _ _ (c.with_number-made.ensures _ _ c.no_members.ensures refl) refl)
