use Rattle.std.proofs.Common.{◌∙◌, ap, sym}
use Rattle.std.proofs.lemmas.Result.{IfOk-weaker}
use Rattle.segment_word.specs.AcceptViews.{begun}
use Rattle.verifier.specs.Opened.{IsNamedOf}
use Rattle.s4_compact.proofs.trying.try_opened.Goals as goal

pub returns : goal.returns
returns g c =
    let named : IsNamedOf c.args.opened c.named-drive.result = record { ledger = c.named-drive.ensures.ledger ∙ ap begun (sym c.requires.base); store = c.named-drive.ensures.store; audit = c.named-drive.ensures.audit } in
    record { leaves = IfOk-weaker c.try_drive.result _ _ (λ room done. record { drive = c.named-drive.result; named = named; holds = done }) c.try_drive.ensures.leaves }
