use Rattle.std.proofs.Common.{◌≡◌, ℕ, List, ◌<◌, ◌^◌, ◌⊎◌, inl, inr, refl, length, arith, subst, ◌∙◌}
use Rattle.update_log.specs.Headers.{IsHeader, start}
use Rattle.update_log.proofs.Choices.{if_false, if_true}
use Rattle.update_log.proofs.Heading.{header_made, no_limit, not_made}
use Rattle.update_log.proofs.headers.read_header.Goals as goal
use Rattle.update_log.proofs.headers.read_header.Goals.{then-limit-via-then-limit, then-limit-via-else-limit+then-limit-length}

pub returns-then-limit-clause-none : goal.returns-then-limit-clause-none
returns-then-limit-clause-none c =
    let few : length c.args.bytes.now < 2 ^ 64 = omega (arith, c.split_at.type_inv.1.1, c.split_at.ensures.back_len) in
    let bad : (c.long_at-limit.result < 512) ⊎ (length c.args.bytes.now < c.long_at-limit.result) = elim c.then-limit.branch [
      | then-limit-via-then-limit w ↦ inl (omega (arith, w.if-limit.true))
      | then-limit-via-else-limit+then-limit-length w ↦ inr (omega (arith, w.if-limit-length.true))
    ] in
    inr (refl, no_limit c.args.bytes.now c.split_at.result.0.now c.long_at-limit.result c.split_at.ensures.front c.long_at-limit.ensures few bad)

pub returns-then-not-is_same-clause-none : goal.returns-then-not-is_same-clause-none
returns-then-not-is_same-clause-none c =
    let few : length c.args.bytes.now < 2 ^ 64 = omega (arith, c.split_at.type_inv.1.1, c.split_at.ensures.back_len) in
    let differs = if_false c.is_same.result _ _ c.is_same.ensures c.if-not-is_same.true in
    inr (
      refl,
      not_made c.args.bytes.now c.split_at.result.0.now c.as_slice.result.now c.deref.result.now c.long_at-limit.result c.split_at.ensures.front (c.as_slice.ensures ∙ c.image_of-image.ensures) c.long_at-limit.ensures few
          (c.deref.ensures.value ∙ c.in_ok-made.ensures.bytes) differs,
    )

pub returns-clause-header : goal.returns-clause-header
returns-clause-header c =
    let same = if_true c.is_same.result _ _ c.is_same.ensures c.if-not-is_same.false in
    let named = c.as_slice.ensures in
    let is = header_made c.args.bytes.now c.split_at.result.0.now c.as_slice.result.now c.deref.result.now c.long_at-limit.result c.split_at.ensures.front (c.deref.ensures.value ∙ c.in_ok-made.ensures.bytes) same
    c.if-limit.false c.if-limit-length.false in
    (c.long_at-limit.result, (subst (λ (x : List ℕ). IsHeader x c.long_at-limit.result c.args.bytes.now) named is, subst (λ (x : List ℕ). c.in_ok-made.place ≡ start x c.long_at-limit.result) named c.in_ok-made.ensures.place))
