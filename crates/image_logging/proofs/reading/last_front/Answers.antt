use Rattle.std.proofs.Common.{inl, inr}
use Rattle.image_logging.proofs.Following.{unmade_from}
use Rattle.image_logging.proofs.reading.last_front.Goals as goal

pub returns-in-Err-clause-unmade : goal.returns-in-Err-clause-unmade
returns-in-Err-clause-unmade c =
    elim c.in-Err.ensures.unmade [
      | inl memory ↦ inl memory
      | inr other ↦ inr (other.0, unmade_from c.args.payloads.now c.loop-payload.payload-index c.payload-item.result c.payload-item.result _ c.loop-payload.front.items _ _ c.loop-payload-test.true c.payload-item.is c.as_slice-in-loop-payload.ensures.value c.as_slice.ensures.value c.loop-payload.invariant other.1)
    ]
