use Rattle.std.proofs.Common.{◌≡◌, ◌∙◌, ◌+◌, ◌-◌, ℕ, List, take, refl, ap, ap₂}
use Rattle.history_report.specs.Page.{Part}
use Rattle.history_report.specs.Timeline.{place_of, run_mark}
use Rattle.history_report.proofs.marks.run_text.Goals as goal

pub returns : goal.returns
returns c =
    let scale = c.args.scale.now in
    let run = c.args.run.now in
    let wide : c.saturating_sub.result + 3 ≡ place_of scale run.last - place_of scale run.first + 3 =
    ap (λ n. n + 3) (c.saturating_sub.ensures ∙ ap₂ (λ (a b : ℕ). a - b) c.place_of-end.ensures.place c.place_of-place.ensures.place) in
    let so_far : ℕ → List Part = λ n. take n (run_mark scale c.args.object run) in
    let begun = c.with_text-made.ensures (so_far 0) _ c.no_parts.ensures refl in
    let place = c.with_number-made.ensures (so_far 1) _ begun c.place_of-place.ensures.place in
    let across = c.with_text-made-2.ensures (so_far 2) _ place refl in
    let width = c.with_number-made-2.ensures (so_far 3) _ across wide in
    let titled = c.with_text-made-3.ensures (so_far 4) _ width refl in
    let object = c.with_number-made-3.ensures (so_far 5) _ titled c.number.ensures in
    let hidden = c.with_text-made-4.ensures (so_far 6) _ object refl in
    let first = c.with_moment-made.ensures (so_far 7) _ _ hidden refl refl in
    let to = c.with_text-made-5.ensures (so_far 8) _ first refl in
    let last = c.with_moment-made-2.ensures (so_far 9) _ _ to refl refl in
    c.with_text.ensures (so_far 10) _ last refl
