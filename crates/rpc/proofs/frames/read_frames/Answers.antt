use Rattle.std.proofs.Common.{List, None, Some, sym, subst, arith}
use Rattle.rpc.specs.declared.items.Item.{Item}
use Rattle.rpc.specs.Stream.{AddsItems}
use Rattle.rpc.proofs.StreamLaws.{frame_length, Leads-one, Leads-partial, Leads-oversized}
use Rattle.rpc.proofs.frames.read_frames.Goals as goal

pub returns-in-Err-clause-read : goal.returns-in-Err-clause-read
returns-in-Err-clause-read g c =
    let over = rw c.in-Err.is at c.in_ok-read_first.ensures.oversized in
    subst (λ (x : List (Item g.row.T.Denot)). AddsItems g.T.Message.spells c.args.bytes.now c.args.items.now.items x None) (sym over.1)
    (Leads-oversized g.T.Message.spells c.args.bytes.now c.args.items.now.items c.loop-rest.items.items c.loop-rest.left.now c.loop-rest.invariant over.0)

pub returns-in-Ok-None-clause-read : goal.returns-in-Ok-None-clause-read
returns-in-Ok-None-clause-read g c =
    let partial = rw (c.in-Ok-None.is, c.in-Ok-None.field-0-is) at c.in_ok-read_first.ensures.partial in
    subst (λ (x : List (Item g.row.T.Denot)). AddsItems g.T.Message.spells c.args.bytes.now c.args.items.now.items x (Some c.loop-rest.left.now)) (sym partial.1)
    (Leads-partial g.T.Message.spells c.args.bytes.now c.args.items.now.items c.loop-rest.items.items c.loop-rest.left.now c.loop-rest.invariant partial.0)

pub loop-rest-smaller : goal.loop-rest-smaller
loop-rest-smaller g c =
    let one = rw (c.in-Ok-Some.is, c.in-Ok-Some.field-0-is) at c.in_ok-read_first.ensures.whole in
    omega (arith, frame_length c.loop-rest.left.now one.body c.in-Ok-Some.rest.now one.begins)

pub loop-rest-preserved : goal.loop-rest-preserved
loop-rest-preserved g c =
    Leads-one g.T.Message.spells c.args.bytes.now c.args.items.now.items c.loop-rest.items.items c.read_first.new.items.items c.loop-rest.left.now c.in-Ok-Some.rest.now c.loop-rest.invariant
    (rw (c.in-Ok-Some.is, c.in-Ok-Some.field-0-is) at c.in_ok-read_first.ensures.whole)
