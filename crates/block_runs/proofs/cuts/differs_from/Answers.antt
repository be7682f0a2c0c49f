use Rattle.std.proofs.Common.{◌≡◌, ◌∙◌, ◌+◌, ◌-◌, ◌<◌, ◌≤◌, ◌||◌, ℕ, Bool, false, length, sym, ap, arith}
use Rattle.block_runs.specs.Runs.{any_between, differs}
use Rattle.block_runs.proofs.Cutting.{any_more}
use Rattle.block_runs.proofs.cuts.differs_from.Goals as goal

pub loop-index-preserved : goal.loop-index-preserved
loop-index-preserved c =
    let first = c.args.first in
    let i : ℕ = c.loop-index.index - 1 in
    let d = differs c.args.bytes.now c.args.now.now in
    let below : c.args.first < c.loop-index.index = c.loop-index-test.true in
    let within : c.loop-index.index ≤ length c.args.bytes.now = c.loop-index.invariant.within in
    let from : c.args.first ≤ c.loop-index.index - 1 = omega arith in
    let more : c.loop-index.index - 1 + 1 ≡ c.loop-index.index = omega arith in
    let same : d i ≡ false = sym c.differs.ensures ∙ c.if-differs.false in
    record {
      from = from;
      within = omega arith;
      rest = sym (ap (λ (here : Bool). here || any_between d first (i - first)) same) ∙ sym (any_more d first i from) ∙ ap (λ n. any_between d first (n - first)) more ∙ c.loop-index.invariant.rest;
    }
