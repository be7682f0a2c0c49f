use Rattle.std.proofs.Common.{◌∙◌}
use Rattle.std.proofs.lemmas.Result.{IfOk-weaker}
use Rattle.moment_words.proofs.printing.instant_text.Goals as goal

pub returns : goal.returns
returns c =
    let h = c.printed-text.ensures in
    IfOk-weaker c.from_str.result _ _ (λ s e. (h.0, h.1, e ∙ c.as_str.ensures.value ∙ h.2)) c.from_str.ensures.ok
