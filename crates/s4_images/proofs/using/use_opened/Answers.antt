use Rattle.std.proofs.Common.{◌∙◌, ap, sym}
use Rattle.std.proofs.lemmas.Result.{IfOk-weaker, IfErr-weaker}
use Rattle.segment_word.specs.AcceptViews.{begun}
use Rattle.verifier.specs.Opened.{IsNamedOf}
use Rattle.s4_images.proofs.using.use_opened.Goals as goal

pub returns : goal.returns
returns g c =
    let named : IsNamedOf c.args.opened c.named-drive.result = record { ledger = c.named-drive.ensures.ledger ∙ ap begun (sym c.requires.base); store = c.named-drive.ensures.store; audit = c.named-drive.ensures.audit } in
    record {
      gives = IfOk-weaker c.apply-given.result _ _ (λ given done. record { drive = c.named-drive.result; named = named; holds = done }) c.apply-given.ensures.gives;
      fails = IfErr-weaker c.apply-given.result _ _ (λ failure done. record { drive = c.named-drive.result; named = named; holds = done }) c.apply-given.ensures.fails;
    }
