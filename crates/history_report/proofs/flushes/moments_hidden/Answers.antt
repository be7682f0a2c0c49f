use Rattle.std.proofs.Common.{ℕ, List, take, refl}
use Rattle.history_report.specs.Page.{Part}
use Rattle.history_report.specs.Flushes.{moments_hidden}
use Rattle.history_report.proofs.flushes.moments_hidden.Goals as goal

pub returns : goal.returns
returns c =
    let so_far : ℕ → List Part = λ n. take n (moments_hidden c.args.style c.args.row.now) in
    let begun = c.with_text-made.ensures (so_far 0) _ c.no_parts.ensures refl in
    let moment = c.with_moment-made.ensures (so_far 1) _ _ begun refl refl in
    let between = c.with_text-made-2.ensures (so_far 2) _ moment refl in
    let first = c.with_moment-made-2.ensures (so_far 3) _ _ between c.new.ensures refl in
    let to = c.with_text-made-3.ensures (so_far 4) _ first refl in
    c.with_moment.ensures (so_far 5) _ _ to c.new-2.ensures refl
