use Rattle.std.proofs.Common.{◌≡◌, ◌++◌, IfOk, List, sym, ap, subst, ◌∙◌, arith}
use Rattle.s4_types.specs.declared.spans.Span.{Span}
use Rattle.window.proofs.Ordering.{span_placed, span_stops, span_takes}
use Rattle.window.proofs.runs.with_span.Goals as goal

pub loop-i-init : goal.loop-i-init
loop-i-init c =
    let front : List Span = c.split_at.result.0.now in
    let is : c.extend_from_slice.new.self.items ≡ front = c.in_ok-extend_from_slice.ensures.items ∙ ap (λ (xs : List Span). xs ++ front) c.in_ok-all.ensures.items in
    let placed = span_placed c.args.added.now c.args.runs.now front c.split_at.result.1.now c.extend_from_slice.new.self.items c.count_before.result c.count_before.ensures.point c.split_at.ensures.front c.split_at.ensures.back is in
    record { all = placed.0; none = placed.1 }

pub returns-then-is_before-clause-ok : goal.returns-then-is_before-clause-ok
returns-then-is_before-clause-ok c =
    let is = span_stops c.args.added.now c.loop-i.span c.index-behind-i.result c.args.runs.now c.extend_from_slice.new.self.items c.split_at.result.1.now c.loop-i.i (omega arith) c.index-behind-i.is (sym c.if-is_before.ensures) c.loop-i.invariant.all c.loop-i.invariant.none in
    subst (λ (xs : List Span). IfOk c.ended.result (λ v. v.items ≡ xs)) is c.ended.ensures.ok

pub loop-i-preserved : goal.loop-i-preserved
loop-i-preserved c =
    let taken = span_takes c.args.added.now c.loop-i.span c.index-behind-i.result c.joined-span.result c.args.runs.now c.extend_from_slice.new.self.items c.split_at.result.1.now c.loop-i.i (omega arith) c.index-behind-i.is (sym c.if-is_before.ensures)
    c.joined-span.ensures c.loop-i.invariant.all c.loop-i.invariant.none in
    record { all = taken.0; none = taken.1 }
