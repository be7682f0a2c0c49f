use Rattle.std.proofs.Common.{◌≢◌, ◌⊎◌, inl, inr, ◌-◌, ◌^◌, ◌<◌, length, refl, arith, ◌∙◌}
use Rattle.update_log.specs.Tails.{weight}
use Rattle.update_log.proofs.Choices.{if_false}
use Rattle.update_log.proofs.Following.{fails_at}
use Rattle.update_log.proofs.accepting.record_at.Goals as goal
use Rattle.update_log.proofs.accepting.record_at.Goals.{then-tail-lt-SECTOR_BYTES-via-then-tail-lt-SECTOR_BYTES, then-tail-lt-SECTOR_BYTES-via-else-tail-lt-SECTOR_BYTES+then-weight_of-ne-WHOLE}

pub returns-then-tail-lt-SECTOR_BYTES-clause-none : goal.returns-then-tail-lt-SECTOR_BYTES-clause-none
returns-then-tail-lt-SECTOR_BYTES-clause-none c =
    let closed = if_false c.is_open.result _ _ c.is_open.ensures c.if-is_open.false in
    let bad : (length c.tail-tail.result.now < 512) ⊎ (weight c.tail-tail.result.now ≢ 2 ^ 32 - 1) = elim c.then-tail-lt-SECTOR_BYTES.branch [
      | then-tail-lt-SECTOR_BYTES-via-then-tail-lt-SECTOR_BYTES w ↦ inl (omega (arith, w.if-tail-lt-SECTOR_BYTES.true))
      | then-tail-lt-SECTOR_BYTES-via-else-tail-lt-SECTOR_BYTES+then-weight_of-ne-WHOLE w ↦ inr (λ e. w.if-weight_of-ne-WHOLE.true (w.weight_of.ensures ∙ e))
    ] in
    inr (refl, fails_at c.args.place.now c.args.bytes.now c.tail-tail.result.now c.tail-tail.ensures c.requires.few closed bad)
