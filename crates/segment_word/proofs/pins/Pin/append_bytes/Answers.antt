use Rattle.std.proofs.Common.{◌<◌, ◌∙◌, ◌+◌, ◌*◌, ap, sym, subst, arith, List}
use Rattle.atomic_table.specs.Seated.{TableId}
use Rattle.segment_word.specs.Frames.{Pinned}
use Rattle.segment_word.specs.Counting.{pins_in}
use Rattle.segment_word.specs.Handles.{Held}
use Rattle.segment_word.proofs.HeldPins.{counted_inside}
use Rattle.segment_word.proofs.pins.Pin.append_bytes.Goals as goal

pub append_bytes-requires-clause-inside : goal.append_bytes-requires-clause-inside
append_bytes-requires-clause-inside c =
    let pins = ap (λ (h : Held). h.pins) c.self.view_is in
    let counted : 0 < pins_in c.args.frame c.self.inside.seat.me.0.pins = subst (λ (l : List Pinned). 0 < pins_in c.args.frame l) (sym pins) c.requires.counted in
    let low = counted_inside c.self.inside.seat.table_id c.args.frame c.self.inside.seat.me.0.pins c.self.invariant.3 counted in
    let here = c.self.invariant.0 ∙ sym (ap (λ b. b.table.shared.table_id) c.deref.ensures) in
    (subst (λ (z : TableId). 1025 * c.args.frame + 1024 < z.words) here low, c.deref.result.now.sized.1, omega arith)
