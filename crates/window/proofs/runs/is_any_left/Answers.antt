use Rattle.std.proofs.Common.{◌≡◌, ◌+◌, ◌<◌, max, List, Bor, ap, ◌∙◌, arith}
use Rattle.s4_types.specs.declared.spans.Span.{Span}
use Rattle.window.proofs.Walking.{walks_past_all, walks_past_own, walks_same}
use Rattle.window.proofs.runs.is_any_left.Goals as goal
use Rattle.window.proofs.runs.is_any_left.Goals.{in-Some, in_default+in-Some-begun}

pub loop-run-preserved : goal.loop-run-preserved
loop-run-preserved c =
    let last : c.number-last.result ≡ c.match-begun.run.now.last = c.number-last.ensures in
    let behind : c.new-at.result ≡ max c.loop-run.at (c.match-begun.run.now.last + 1) =
    c.new-at.ensures ∙ c.max.ensures ∙ ap (λ n. max n (c.number-last.result + 1)) c.number-in-loop-run.ensures ∙ ap (λ n. max c.loop-run.at (n + 1)) last in
    let ends : c.match-begun.run.now.last < c.args.to = omega arith in
    elim c.match-begun.branch [
      | in-Some w ↦ (let last : c.match-begun.run.now.last ≡ w.in-Some.run'.now.last = ap (λ (r : Bor Span). r.now.last) w.run-is in
          walks_same c.args.all.now c.args.own.now c.args.from w.in-Some.rest.now c.loop-run.own_left.now c.match-begun.all_left.now c.match-begun.own_left.now _ c.new-at.result c.args.to
          (ap (λ (r : Bor (List Span)). r.now) w.all_left-is) (ap (λ (r : Bor (List Span)). r.now) w.own_left-is) (behind ∙ ap (λ n. max c.loop-run.at (n + 1)) last)
          (walks_past_all c.args.all.now c.args.own.now c.args.from c.loop-run.all_left.now c.loop-run.own_left.now w.in-Some.rest.now w.in-Some.run'.now c.loop-run.at c.args.to w.in-Some.ensures.0 w.in-Some.ensures.1 (omega arith) c.loop-run.invariant))
      | in_default+in-Some-begun w ↦ (let last : c.match-begun.run.now.last ≡ w.in-Some-begun.run'.now.last = ap (λ (r : Bor Span). r.now.last) w.run-is in
          walks_same c.args.all.now c.args.own.now c.args.from c.loop-run.all_left.now w.in-Some-begun.rest.now c.match-begun.all_left.now c.match-begun.own_left.now _ c.new-at.result c.args.to
          (ap (λ (r : Bor (List Span)). r.now) w.all_left-is) (ap (λ (r : Bor (List Span)). r.now) w.own_left-is) (behind ∙ ap (λ n. max c.loop-run.at (n + 1)) last)
          (walks_past_own c.args.all.now c.args.own.now c.args.from c.loop-run.all_left.now c.loop-run.own_left.now w.in-Some-begun.rest.now w.in-Some-begun.run'.now c.loop-run.at c.args.to w.in-Some-begun.ensures.0 w.in-Some-begun.ensures.1 (omega arith) c.loop-run.invariant))
    ]
