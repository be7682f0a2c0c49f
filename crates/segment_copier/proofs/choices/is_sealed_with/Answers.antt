use Rattle.std.proofs.Common.{◌≡◌, ℕ, length, ap, ◌∙◌, arith}
use Rattle.std.specs.Prelude.{nat_eq, vec_len}
use Rattle.segment_copier.proofs.Chosen.{sealed_by}
use Rattle.segment_copier.proofs.choices.is_sealed_with.Goals as goal

pub returns-clause-sealed : goal.returns-clause-sealed
returns-clause-sealed g c =
    let same : vec_len c.in_ok-held.held ≡ length c.in_ok-held.held.items = omega (arith, c.in_ok-held.held.ok.0) in
    sealed_by c.args.drive.now.store.table c.args.frame c.args.lowest c.in_ok-held.held.items c.is_empty.result c.listings.ensures c.requires
    c.in_ok-held.ensures.pointers (c.is_empty.ensures ∙ ap (λ (n : ℕ). nat_eq n 0) same)
