use Rattle.std.proofs.Common.{◌≡◌, ◌∙◌, ◌-◌, ◌+◌, min, length, ap, arith}
use Rattle.line_diff.proofs.Spanning.{near_seen}
use Rattle.line_diff.proofs.spans.is_near.Goals as goal

pub returns : goal.returns
returns c =
    let from : c.max-from.result - 3 ≡ c.args.at - 3 = omega (arith, c.max-from.ensures) in
    let four : c.args.at + 3 + 1 ≡ c.args.at + 4 = omega arith in
    let to : c.min-to.result ≡ min (length c.args.rows.now) (c.args.at + 4) = c.min-to.ensures ∙ ap (λ k. min (length c.args.rows.now) k) four in
    c.has_change.ensures ∙ near_seen c.args.rows.now c.args.at (c.max-from.result - 3) c.min-to.result from to
