use Rattle.std.proofs.Common.{◌∙◌, ℕ, List, take, refl, ap}
use Rattle.history_report.specs.Page.{Part}
use Rattle.history_report.specs.Differences.{difference_by, difference_end}
use Rattle.history_report.proofs.differences.difference_text.Goals as goal

pub returns : goal.returns
returns c =
    let so_far : ℕ → List Part = λ n. take n (difference_by c.args.object c.args.lines.now) in
    let begun = c.with_text-made.ensures (so_far 0) _ c.no_parts.ensures refl in
    let object = c.with_number-made.ensures (so_far 1) _ begun c.number.ensures in
    let opened = c.with_text-made-2.ensures (so_far 2) _ object refl in
    let lines = c.with_data-made.ensures (so_far 3) _ opened c.first_lines.ensures in
    c.with_text.ensures (so_far 4) _ lines (c.difference_end.ensures ∙ ap difference_end c.has_more_lines.ensures)
