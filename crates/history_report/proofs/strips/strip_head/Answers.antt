use Rattle.std.proofs.Common.{ℕ, List, take, refl}
use Rattle.history_report.specs.Page.{Part}
use Rattle.history_report.specs.Timeline.{strip_head}
use Rattle.history_report.proofs.strips.strip_head.Goals as goal

pub returns : goal.returns
returns c =
    let so_far : ℕ → List Part = λ n. take n (strip_head c.args.object) in
    let begun = c.with_text-made.ensures (so_far 0) _ c.no_parts.ensures refl in
    let number = c.with_number-made.ensures (so_far 1) _ begun c.number.ensures in
    c.with_text.ensures (so_far 2) _ number refl
