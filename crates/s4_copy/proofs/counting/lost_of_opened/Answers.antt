use Rattle.std.proofs.Common.{◌∙◌, ap, sym}
use Rattle.std.proofs.lemmas.Result.{IfOk-weaker}
use Rattle.segment_word.specs.AcceptViews.{begun}
use Rattle.verifier.specs.Opened.{IsNamedOf}
use Rattle.s4_copy.proofs.counting.lost_of_opened.Goals as goal

pub returns-clause-lost : goal.returns-clause-lost
returns-clause-lost g c =
    let named : IsNamedOf c.args.opened c.named-drive.result = record { ledger = c.named-drive.ensures.ledger ∙ ap begun (sym c.requires.base); store = c.named-drive.ensures.store; audit = c.named-drive.ensures.audit } in
    IfOk-weaker c.lost_of_drive-lost.result _ _ (λ count lost. record { drive = c.named-drive.result; named = named; holds = lost }) c.lost_of_drive-lost.ensures.lost
