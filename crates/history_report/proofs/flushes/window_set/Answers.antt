use Rattle.std.proofs.Common.{ℕ, List, take, refl}
use Rattle.history_report.specs.Page.{Part}
use Rattle.history_report.specs.Flushes.{window_set}
use Rattle.history_report.proofs.flushes.window_set.Goals as goal

pub returns : goal.returns
returns c =
    let so_far : ℕ → List Part = λ n. take n (window_set c.args.style c.args.row.now) in
    let begun = c.with_text-made.ensures (so_far 0) _ c.no_parts.ensures refl in
    let moment = c.with_moment-made.ensures (so_far 1) _ _ begun refl refl in
    let set = c.with_text-made-2.ensures (so_far 2) _ moment refl in
    let window = c.with_number-made.ensures (so_far 3) _ set refl in
    c.with_text.ensures (so_far 4) _ window refl
