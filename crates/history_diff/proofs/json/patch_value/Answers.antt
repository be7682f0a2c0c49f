use Rattle.std.proofs.Common.{refl}
use Rattle.history_diff.proofs.json.patch_value.Goals as goal

pub returns : goal.returns
returns c =
    let first = c.with_number-made.ensures _ _ c.no_members.ensures refl in
    let last = c.with_number-made-2.ensures _ _ first refl in
    let before = c.with_hex-made.ensures _ _ last c.bytes_in.ensures in
    c.object_of.ensures _ (c.with_hex.ensures _ _ before c.bytes_in-2.ensures)
