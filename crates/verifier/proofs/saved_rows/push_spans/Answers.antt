use Rattle.std.proofs.Common.{◌<◌, ◌++◌, ◌∙◌, ap, length, take, arith}
use Rattle.std.specs.List.{flat_map}
use Rattle.image_parts.specs.Spans.{span_bytes}
use Rattle.verifier.proofs.Lists.{flat_more}
use Rattle.verifier.proofs.saved_rows.push_spans.Goals as goal

pub loop-span-preserved : goal.loop-span-preserved
loop-span-preserved c =
    let i = c.loop-span.span-index in
    let lt : i < length c.args.spans.now = omega arith in
    c.in_ok-push_span.ensures.items
    ∙ ap (λ b. b ++ span_bytes c.span-item.result) c.loop-span.invariant
    ∙ ap (λ r. (c.args.out.now.items ++ flat_map span_bytes (take i c.args.spans.now)) ++ span_bytes r) c.span-item.is
    ∙ flat_more span_bytes c.args.out.now.items c.args.spans.now i c.span-item.result lt
