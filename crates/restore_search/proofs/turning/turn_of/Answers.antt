use Rattle.std.proofs.Common.{◌≡◌, ◌∙◌, List, ap, eq-eqb, length, refl, sym, vec_len}
use Rattle.std.proofs.lemmas.Bool.{true≢false}
use Rattle.restore_search.specs.declared.surveys.Lacking.{Lacking}
use Rattle.restore_search.proofs.turning.turn_of.Goals as goal

pub returns-then-not-is_empty-clause-turns : goal.returns-then-not-is_empty-clause-turns
returns-then-not-is_empty-clause-turns c = c.turn_unmade.ensures c.args.flush c.args.survey.now.refused.items

pub returns-then-not-is_empty-clause-settled : goal.returns-then-not-is_empty-clause-settled
returns-then-not-is_empty-clause-settled c none =
    let unmade = c.args.survey.now.unmade in
    let len : vec_len unmade ≡ 0 = sym c.as_slice.ensures.len ∙ ap (λ (l : List Lacking). length l) (c.as_slice.ensures.value ∙ none) in
    absurd (true≢false (sym (eq-eqb (vec_len unmade) 0 len) ∙ sym c.is_empty.ensures ∙ c.if-not-is_empty.true))

pub returns-then-not-is_full-clause-settled : goal.returns-then-not-is_full-clause-settled
returns-then-not-is_full-clause-settled c _ same = c.between.ensures.least ∙ c.between.ensures.settled c.args.hiding.now.count refl same
