use Rattle.std.proofs.Common.{Option, subst}
use Rattle.kept_drive.specs.Receipts.{ReceiptFields}
use Rattle.batch_serving.specs.Waiting.{HasWaited}
use Rattle.std.specs.Prelude.{true}
use Rattle.s4serve.specs.Seats.{IsSeatAt}
use Rattle.s4serve.proofs.Tracing.{owes}
use Rattle.s4serve.proofs.replying.ReplyingOutletSeatUndrawnAtMonitorKeptReceipt.send.Goals as goal

-- what the session has said until now, which has waited for its last step
pub send-sent-requires-clause-owed : goal.send-sent-requires-clause-owed
send-sent-requires-clause-owed g c =
    let waited = subst (λ (held : Option ReceiptFields). HasWaited IsSeatAt (λ (r : ReceiptFields). r.number) (λ (r : ReceiptFields). r.reach) true c.args._backend.now c.requires.kept.0.receipt held) c.in-Some.is c.requires.kept.1 in
    owes g.J.Naming.base g.J.Running.reserve g.J.Running.moments (g.O.SessionOutput.role c.args.self.now.output) (g.O.SessionOutput.sent c.args.self.now.output) c.args.bytes.now c.args._backend.now c.args._clock.now c.requires.kept.0.receipt c.in-Some.receipt c.requires.said waited
