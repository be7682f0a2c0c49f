use Rattle.std.proofs.Common.{◌≡◌, ℕ, List, sym, subst, ◌∙◌}
use Rattle.update_log.specs.Headers.{IsHeader, start}
use Rattle.update_log.proofs.Choices.{if_true}
use Rattle.update_log.proofs.headers.first_place.Goals as goal

pub returns-clause-header : goal.returns-clause-header
returns-clause-header c =
    let same = if_true c.is_same.result _ _ c.is_same.ensures c.if-not-is_same.false in
    let image = sym c.as_slice.ensures ∙ same ∙ c.as_slice-2.ensures in
    subst (λ (x : List ℕ). (limit : ℕ) × (IsHeader x limit c.args.bytes.now × (c.in_ok-named.place ≡ start x limit))) image c.in_ok-named.ensures.header
