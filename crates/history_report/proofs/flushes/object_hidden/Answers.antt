use Rattle.std.proofs.Common.{ℕ, List, take, refl}
use Rattle.history_report.specs.Page.{Part}
use Rattle.history_report.specs.Flushes.{object_hidden}
use Rattle.history_report.proofs.flushes.object_hidden.Goals as goal

pub returns : goal.returns
returns c =
    let so_far : ℕ → List Part = λ n. take n (object_hidden c.args.style c.args.row.now) in
    let of = c.with_text-made.ensures (so_far 6) _ c.moments_hidden-made.ensures refl in
    let object = c.with_number-made.ensures (so_far 7) _ of c.number.ensures in
    c.with_text.ensures (so_far 8) _ object refl
