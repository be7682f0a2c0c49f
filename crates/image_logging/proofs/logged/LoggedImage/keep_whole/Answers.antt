use Rattle.std.proofs.Common.{Err, ap}
use Rattle.image_logging.proofs.Kept.{fewer_leave, fewer_read, fewer_theirs}
use Rattle.image_logging.proofs.logged.LoggedImage.keep_whole.Goals as goal

pub invariant_of-self-in-Err-Short-clause-read : goal.invariant_of-self-in-Err-Short-clause-read
invariant_of-self-in-Err-Short-clause-read g c =
    fewer_read (g.K.Keeper.may_leave c.args.self.now.whole) _ (g.L.UpdateLog.may_leave c.args.self.now.log) _ (c.in-Err-Short.ensures.short (ap (λ e. Err e) c.in-Err-Short.field-0-is)) (λ bound payloads beside. beside) c.args.self.now.read

pub invariant_of-self-in-Err-Short-clause-theirs : goal.invariant_of-self-in-Err-Short-clause-theirs
invariant_of-self-in-Err-Short-clause-theirs g c =
    λ usable bound. fewer_theirs (g.K.Keeper.may_leave c.args.self.now.whole) _ (g.L.UpdateLog.may_leave c.args.self.now.log) _ (c.in-Err-Short.ensures.short (ap (λ e. Err e) c.in-Err-Short.field-0-is)) (λ bound payloads beside. beside) (c.args.self.now.theirs usable bound)

pub invariant_of-self-in-Err-Short-clause-only : goal.invariant_of-self-in-Err-Short-clause-only
invariant_of-self-in-Err-Short-clause-only g c =
    λ usable bound other h. c.args.self.now.only usable bound other (fewer_leave (g.K.Keeper.may_leave c.args.self.now.whole) _ (g.L.UpdateLog.may_leave c.args.self.now.log) _ (c.in-Err-Short.ensures.short (ap (λ e. Err e) c.in-Err-Short.field-0-is)) (λ bound payloads beside. beside) other h)
