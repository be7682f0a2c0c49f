use Rattle.std.proofs.Common.{Err, ap}
use Rattle.image_logging.proofs.Kept.{fewer_leave, fewer_read, fewer_theirs, record_leaves, record_or_before, record_read, record_theirs}
use Rattle.image_logging.proofs.logged.LoggedImage.add.Goals as goal

pub invariant_of-self-clause-read : goal.invariant_of-self-clause-read
invariant_of-self-clause-read g c =
    record_read (g.K.Keeper.may_leave c.args.self.now.whole) (g.L.UpdateLog.may_leave c.args.self.now.log) c.args.payload.now c.args.self.now.front.items c.args.front.items (c.args.self.now.theirs c.requires.usable c.requires.bound) (c.args.self.now.only c.requires.usable c.requires.bound) c.requires.makes _ c.put.ensures.crash c.args.self.now.read

pub invariant_of-self-clause-theirs : goal.invariant_of-self-clause-theirs
invariant_of-self-clause-theirs g c =
    λ usable bound. record_theirs (g.K.Keeper.may_leave c.args.self.now.whole) (g.L.UpdateLog.may_leave c.args.self.now.log) c.args.payload.now c.args.self.now.front.items c.args.front.items (c.args.self.now.theirs c.requires.usable c.requires.bound) (c.args.self.now.only c.requires.usable c.requires.bound) c.requires.makes _ c.in-Ok.ensures.kept

pub invariant_of-self-clause-only : goal.invariant_of-self-clause-only
invariant_of-self-clause-only g c =
    λ usable bound. record_leaves (g.K.Keeper.may_leave c.args.self.now.whole) (g.L.UpdateLog.may_leave c.args.self.now.log) c.args.payload.now c.args.self.now.front.items c.args.front.items (c.args.self.now.theirs c.requires.usable c.requires.bound) (c.args.self.now.only c.requires.usable c.requires.bound) c.requires.makes _ c.in-Ok.ensures.kept

pub returns-in-Ok-clause-kept : goal.returns-in-Ok-clause-kept
returns-in-Ok-clause-kept g c =
    record_leaves (g.K.Keeper.may_leave c.args.self.now.whole) (g.L.UpdateLog.may_leave c.args.self.now.log) c.args.payload.now c.args.self.now.front.items c.args.front.items (c.args.self.now.theirs c.requires.usable c.requires.bound) (c.args.self.now.only c.requires.usable c.requires.bound) c.requires.makes _ c.in-Ok.ensures.kept

pub returns-in-Ok-clause-crash : goal.returns-in-Ok-clause-crash
returns-in-Ok-clause-crash g c =
    record_or_before (g.K.Keeper.may_leave c.args.self.now.whole) (g.L.UpdateLog.may_leave c.args.self.now.log) c.args.payload.now c.args.self.now.front.items c.args.front.items (c.args.self.now.theirs c.requires.usable c.requires.bound) (c.args.self.now.only c.requires.usable c.requires.bound) c.requires.makes _ c.put.ensures.crash

pub returns-clause-crash : goal.returns-clause-crash
returns-clause-crash g c =
    record_or_before (g.K.Keeper.may_leave c.args.self.now.whole) (g.L.UpdateLog.may_leave c.args.self.now.log) c.args.payload.now c.args.self.now.front.items c.args.front.items (c.args.self.now.theirs c.requires.usable c.requires.bound) (c.args.self.now.only c.requires.usable c.requires.bound) c.requires.makes _ c.put.ensures.crash

pub invariant_of-self-in-Err-Short-clause-read : goal.invariant_of-self-in-Err-Short-clause-read
invariant_of-self-in-Err-Short-clause-read g c =
    fewer_read (g.K.Keeper.may_leave c.args.self.now.whole) _ (g.L.UpdateLog.may_leave c.args.self.now.log) _ (λ image there. there) (c.in-Err-Short.ensures.short (ap (λ e. Err e) c.in-Err-Short.field-0-is)) c.args.self.now.read

pub invariant_of-self-in-Err-Short-clause-theirs : goal.invariant_of-self-in-Err-Short-clause-theirs
invariant_of-self-in-Err-Short-clause-theirs g c =
    λ usable bound. fewer_theirs (g.K.Keeper.may_leave c.args.self.now.whole) _ (g.L.UpdateLog.may_leave c.args.self.now.log) _ (λ image there. there) (c.in-Err-Short.ensures.short (ap (λ e. Err e) c.in-Err-Short.field-0-is)) (c.args.self.now.theirs usable bound)

pub invariant_of-self-in-Err-Short-clause-only : goal.invariant_of-self-in-Err-Short-clause-only
invariant_of-self-in-Err-Short-clause-only g c =
    λ usable bound other h. c.args.self.now.only usable bound other (fewer_leave (g.K.Keeper.may_leave c.args.self.now.whole) _ (g.L.UpdateLog.may_leave c.args.self.now.log) _ (λ image there. there) (c.in-Err-Short.ensures.short (ap (λ e. Err e) c.in-Err-Short.field-0-is)) other h)

pub invariant_of-self-in-Err-Failed-clause-read : goal.invariant_of-self-in-Err-Failed-clause-read
invariant_of-self-in-Err-Failed-clause-read g c =
    record_read (g.K.Keeper.may_leave c.args.self.now.whole) (g.L.UpdateLog.may_leave c.args.self.now.log) c.args.payload.now c.args.self.now.front.items c.args.front.items (c.args.self.now.theirs c.requires.usable c.requires.bound) (c.args.self.now.only c.requires.usable c.requires.bound) c.requires.makes _ c.put.ensures.crash c.args.self.now.read
