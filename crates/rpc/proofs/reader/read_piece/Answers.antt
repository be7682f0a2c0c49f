use Rattle.std.proofs.Common.{List, ℕ, Bool, Option, Some, None, cond}
use Rattle.std.proofs.lemmas.Result.{IfOk-weaker}
use Rattle.rpc.proofs.FillingLaws.{frame_and_left, oversized_held, partial_held}
use Rattle.rpc.proofs.reader.read_piece.Goals as goal

pub returns-in-Ok-Some-clause-read : goal.returns-in-Ok-Some-clause-read
returns-in-Ok-Some-clause-read g c =
    let end : Bool → Option (List ℕ) = λ goes_on. cond goes_on (Some c.read_rest-in-Ok-Some.new.held.items) None in
    let one = rw (c.in-Ok-Some.is, c.in-Ok-Some.field-0-is) at c.in_ok-read_first.ensures.whole in
    IfOk-weaker c.read_rest-in-Ok-Some.result _ _
    (λ goes_on adds. frame_and_left g.T.Message.spells c.args.held.now.items c.top_up-left.new.held.items c.as_slice.result.now c.args.piece.now c.top_up-left.result.now one.body c.in-Ok-Some.field-0-0.now c.args.items.now.items c.read_first.new.items.items c.read_rest-in-Ok-Some.new.items.items one.item (end goes_on)
    c.top_up-left.ensures.topped_up c.as_slice.ensures.value one.begins one.is one.added adds)
    c.read_rest-in-Ok-Some.ensures.read

pub returns-in-Err-clause-read : goal.returns-in-Err-clause-read
returns-in-Err-clause-read g c =
    let over = rw c.in-Err.is at c.in_ok-read_first.ensures.oversized in
    oversized_held g.T.Message.spells c.args.held.now.items c.top_up-left.new.held.items c.as_slice.result.now c.args.piece.now c.top_up-left.result.now c.args.items.now.items c.read_first.new.items.items c.top_up-left.ensures.topped_up c.as_slice.ensures.value over.0 over.1

pub returns-in-Ok-None-clause-read : goal.returns-in-Ok-None-clause-read
returns-in-Ok-None-clause-read g c =
    let partial = rw (c.in-Ok-None.is, c.in-Ok-None.field-0-is) at c.in_ok-read_first.ensures.partial in
    partial_held g.T.Message.spells c.args.held.now.items c.top_up-left.new.held.items c.as_slice.result.now c.args.piece.now c.top_up-left.result.now c.args.items.now.items c.read_first.new.items.items c.top_up-left.ensures.topped_up c.as_slice.ensures.value partial.0 partial.1
