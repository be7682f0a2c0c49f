use Rattle.std.proofs.Common.{ap, sym, ◌∙◌}
use Rattle.std.proofs.lemmas.Result.{IfOk-weaker}
use Rattle.segment_word.specs.AcceptViews.{begun}
use Rattle.verifier.specs.Opened.{IsNamedOf}
use Rattle.verifier.proofs.round_trips.save_named.Goals as goal

pub returns-clause-same : goal.returns-clause-same
returns-clause-same g c =
    let named : IsNamedOf c.args.opened c.named-drive.result = record { ledger = c.named-drive.ensures.ledger ∙ sym (ap begun c.requires.base); store = c.named-drive.ensures.store; audit = c.named-drive.ensures.audit } in
    IfOk-weaker c.save.result _ _
    (λ saved spelled bytes parts image spells told opened. c.what_is_opened_is_saved_as_it_was.ensures bytes saved.items parts image c.args.opened c.named-drive.result spells told opened named spelled)
    c.save.ensures.saved
