use Rattle.std.proofs.Common.{◌<◌, ◌^◌, sym, ap, arith}
use Rattle.std.proofs.lemmas.Bool.{ltb-true}
use Rattle.s4_types.specs.declared.spans.Span.{Span}
use Rattle.window.proofs.Dividing.{cut_off_at}
use Rattle.window.proofs.chunks.first_part.Goals as goal

pub returns : goal.returns
returns c =
    let probe : Span = c.in_ok-list.field-0.now in
    let next : Span = c.in_ok-get.field-0.now in
    let below : c.in_ok-get.field-0.now.object < 2 ^ 64 = omega (arith, c.number-next.ensures) in
    cut_off_at c.args.runs.now c.split_at.result.0.now c.split_at.result.1.now c.end_of.result _ c.in_ok-list.field-0.now.object probe next next c.end_of.ensures.point c.split_at.ensures.front c.split_at.ensures.back
    (ltb-true _ _ (sym c.in_ok-list.ensures.lookup.0)) (ap (λ (x : Span). x.object) (sym c.in_ok-list.ensures.lookup.1))
    (ltb-true _ _ (sym c.in_ok-get.ensures.lookup.0)) (sym c.in_ok-get.ensures.lookup.1) below
