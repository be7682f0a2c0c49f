use Rattle.std.proofs.Common.{◌≡◌, ◌∙◌, sym, subst, arith}
use Rattle.s4_model.specs.Visible.{IsSeenBetween}
use Rattle.drive.specs.Fields.{state_in}
use Rattle.history_view.proofs.Seen.{NoneBetween, clock_between, first_seen_is, met}
use Rattle.history_view.proofs.moments.first_seen.Goals as goal

pub loop-low-init : goal.loop-low-init
loop-low-init g c =
    let s = state_in c.args.drive.now in
    let o = c.args.object in
    let t = c.args.from in
    let low : c.number-low.result ≡ t = c.number-low.ensures in
    let high : c.number-high.result ≡ s.clock = c.number-high.ensures ∙ c.clock.ensures in
    record {
      from = omega (arith, low);
      between = subst (λ n. IsSeenBetween s o n c.number-high.result) (sym low) (subst (λ n. IsSeenBetween s o t n) (sym high) (clock_between s o t c.rules.ensures.sound c.requires.reached));
      none = subst (NoneBetween s o t) (sym low) (λ q from below visible. absurd (omega (arith, from, below)));
    }

pub returns-clause-first : goal.returns-clause-first
returns-clause-first g c =
    let s = state_in c.args.drive.now in
    let o = c.args.object in
    let before = c.loop-low.invariant in
    c.new-2.ensures ∙ first_seen_is s o c.args.from c.loop-low.low before.from (met s o c.loop-low.low c.loop-low.high before.between c.loop-low-test.false) before.none
