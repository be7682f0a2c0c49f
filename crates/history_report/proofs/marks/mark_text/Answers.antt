use Rattle.std.proofs.Common.{ℕ, List, take, refl}
use Rattle.history_report.specs.Page.{Part}
use Rattle.history_report.specs.Timeline.{mark_of}
use Rattle.history_report.proofs.marks.mark_text.Goals as goal

pub returns : goal.returns
returns c =
    let so_far : ℕ → List Part = λ n. take n (mark_of c.args.scale.now c.args.object c.args.change.now) in
    let head = c.with_text-made.ensures (so_far 0) _ c.no_parts.ensures c.mark_texts.ensures.head in
    let place = c.with_number-made.ensures (so_far 1) _ head c.place_of.ensures.place in
    let shape = c.with_text-made-2.ensures (so_far 2) _ place c.mark_texts.ensures.shape in
    let object = c.with_number-made-2.ensures (so_far 3) _ shape c.number.ensures in
    let done = c.with_text-made-3.ensures (so_far 4) _ object c.done_text.ensures in
    let moment = c.with_moment-made.ensures (so_far 5) _ _ done refl refl in
    let colon = c.with_text-made-4.ensures (so_far 6) _ moment refl in
    let before = c.with_number-made-3.ensures (so_far 7) _ colon c.from.ensures in
    let to = c.with_text-made-5.ensures (so_far 8) _ before refl in
    let after = c.with_number-made-4.ensures (so_far 9) _ to c.from-2.ensures in
    c.with_text.ensures (so_far 10) _ after refl
