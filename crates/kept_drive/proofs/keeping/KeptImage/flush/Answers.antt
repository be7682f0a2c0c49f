use Rattle.kept_drive.specs.Collecting.{WasHad}
use Rattle.kept_drive.specs.Images.{IsFlushed}
use Rattle.kept_drive.proofs.KeepingLemmas.{before_or_holds, only_keeps}
use Rattle.kept_drive.proofs.keeping.KeptImage.flush.Goals as goal

pub returns-in-Ok-keep-clause-kept : goal.returns-in-Ok-keep-clause-kept
returns-in-Ok-keep-clause-kept g c =
    only_keeps (IsFlushed (WasHad g.J.Naming.frames g.J.Naming.base) g.J.Naming.base c.prepare.new.session.told.seen c.args.self.now.reach c.in-Ok.prepared.reach) _ _ c.as_slice.ensures.value c.in-Ok.ensures.flushed _ c.in-Ok-keep.ensures.kept

pub returns-in-Ok-keep-clause-crash : goal.returns-in-Ok-keep-clause-crash
returns-in-Ok-keep-clause-crash g c =
    before_or_holds (IsFlushed (WasHad g.J.Naming.frames g.J.Naming.base) g.J.Naming.base c.prepare.new.session.told.seen c.args.self.now.reach c.in-Ok.prepared.reach) _ _ c.as_slice.ensures.value c.in-Ok.ensures.flushed _ _ c.keep.ensures.crash

pub returns-in-Err-Short-clause-crash : goal.returns-in-Err-Short-clause-crash
returns-in-Err-Short-clause-crash g c =
    before_or_holds (IsFlushed (WasHad g.J.Naming.frames g.J.Naming.base) g.J.Naming.base c.prepare.new.session.told.seen c.args.self.now.reach c.in-Ok.prepared.reach) _ _ c.as_slice.ensures.value c.in-Ok.ensures.flushed _ _ c.keep.ensures.crash

-- a receipt is made of a keeper that has kept as much
pub invariant_of-result : goal.invariant_of-result
invariant_of-result g c = record {
  keeper = c.keep.new.self;
  seen = c.prepare.new.session.told.seen;
  last = c.args.self.now.reach;
  kept = only_keeps (IsFlushed (WasHad g.J.Naming.frames g.J.Naming.base) g.J.Naming.base c.prepare.new.session.told.seen c.args.self.now.reach c.in-Ok.prepared.reach) _ _ c.as_slice.ensures.value c.in-Ok.ensures.flushed _ c.in-Ok-keep.ensures.kept;
  number = c.in-Ok.ensures.number;
}
