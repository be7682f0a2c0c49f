use Rattle.std.proofs.Common.{inl, inr, ap, ◌∙◌}
use Rattle.std.proofs.lemmas.Result.{IfErr-weaker, IfOk-weaker, MatchResult-from_both}
use Rattle.image_update.specs.Encoding.{changes_in, fault_of}
use Rattle.image_update.proofs.Spelled.{changes_again, no_fault, no_some}
use Rattle.image_update.proofs.reading.decode.Goals as goal

pub returns-clause-only : goal.returns-clause-only
returns-clause-only c changes is e =
    MatchResult-from_both c.read_all.result _ _
    (IfOk-weaker c.read_all.result _ _ (λ d same. same ∙ ap changes_in e ∙ changes_again changes is) c.read_all.ensures.read)
    (IfErr-weaker c.read_all.result _ _
    (λ unread why. elim why [
      | inl memory ↦ memory
      | inr fault ↦ absurd (no_some (fault_of c.args.bytes.now) unread (ap fault_of e ∙ no_fault changes is) fault)
    ]) c.read_all.ensures.fault)
