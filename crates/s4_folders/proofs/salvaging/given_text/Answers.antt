use Rattle.std.proofs.Common.{◌∙◌, ℕ, ap}
use Rattle.std.proofs.lemmas.Result.{IfOk-weaker}
use Rattle.s4_folders.specs.Salvaging.{counts_text}
use Rattle.s4_folders.proofs.salvaging.given_text.Goals as goal

pub returns : goal.returns
returns c = IfOk-weaker c.counts_text.result _ _ (λ text is. is ∙ ap (λ (n : ℕ). counts_text c.args.given.now n) c.damage_count.ensures) c.counts_text.ensures
