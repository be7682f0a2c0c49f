use Rattle.std.proofs.Common.{◌≡◌, inl, inr}
use Rattle.update_log.specs.Logs.{Begins}
use Rattle.update_log.specs.Records.{after}
use Rattle.update_log.proofs.Following.{found_first, found_more, found_none, made_entry}
use Rattle.update_log.proofs.accepting.accept.Goals as goal

pub loop-why-init : goal.loop-why-init
loop-why-init c = rw c.new-payloads.ensures.items (found_first c.args.image.now c.args.bytes.now c.in_ok-place.place c.in_ok-place.ensures.header)

pub returns-in-Err-clause-refused : goal.returns-in-Err-clause-refused
returns-in-Err-clause-refused c =
    elim c.in-Err.ensures.none [
      | inl memory ↦ inl memory
      | inr damaged ↦ inr (inl (damaged.0, found_none c.args.image.now c.args.bytes.now _ c.loop-why.place c.in_ok-place.ensures.image c.in_ok-place.ensures.few c.loop-why.invariant damaged.1))
    ]

pub loop-why-preserved : goal.loop-why-preserved
loop-why-preserved c =
    let e = made_entry c.in-Ok-Some.next.limit c.in-Ok-Some.payload.items in
    let begins : Begins c.loop-why.place e c.args.bytes.now = rw c.in-Ok-Some.field-0-is at c.in-Ok-Some.ensures.record in
    let goes : c.in-Ok-Some.next ≡ after c.loop-why.place e = rw c.in-Ok-Some.field-0-is at c.in-Ok-Some.ensures.after in
    let more = found_more c.args.image.now c.args.bytes.now _ c.loop-why.place e c.loop-why.invariant begins in
    rw (c.in_ok-keep-in-Ok-Some.ensures.kept, goes) more
