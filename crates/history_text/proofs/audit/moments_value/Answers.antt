use Rattle.std.proofs.Common.{refl}
use Rattle.history_text.proofs.audit.moments_value.Goals as goal

pub returns : goal.returns
returns c =
    let first = c.with_number-made.ensures _ _ c.no_members.ensures refl in
    let first_time = c.with_time-made.ensures _ _ first c.new.ensures in
    let last = c.with_number-made-2.ensures _ _ first_time refl in
    c.object_of.ensures _ (c.with_time.ensures _ _ last c.new-2.ensures)
