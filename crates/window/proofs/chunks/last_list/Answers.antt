use Rattle.std.proofs.Common.{◌≡◌, suc, ◌<◌, ◌^◌, ◌-◌, length, subst, arith}
use Rattle.s4_types.specs.declared.spans.Span.{Span}
use Rattle.window.proofs.Dividing.{numbered_to_last}
use Rattle.window.proofs.chunks.last_list.Goals as goal

pub returns : goal.returns
returns c =
    let last : Span = c.in_ok-last.field-0.now in
    let some : 0 < length c.args.runs.now = c.in_ok-last.ensures.item.3.0 in
    let size : suc (length c.args.runs.now - 1) ≡ length c.args.runs.now = omega arith in
    let below : c.in_ok-last.field-0.now.object < 2 ^ 64 = omega (arith, c.number.ensures) in
    numbered_to_last c.args.runs.now (length c.args.runs.now - 1) last c.requires size (subst (λ (x : Span). x.object < 2 ^ 64) c.in_ok-last.ensures.item.1 below)
