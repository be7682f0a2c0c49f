use Rattle.kept_drive.specs.Collecting.{WasHad}
use Rattle.kept_drive.specs.Images.{IsClosed}
use Rattle.kept_drive.proofs.KeepingLemmas.{before_or_holds, only_keeps}
use Rattle.kept_drive.proofs.keeping.KeptImage.close.Goals as goal

pub returns-in-Ok-keep-clause-kept : goal.returns-in-Ok-keep-clause-kept
returns-in-Ok-keep-clause-kept g c =
    only_keeps (IsClosed (WasHad g.J.Naming.frames g.J.Naming.base) g.J.Naming.base c.prepare_last.new.session.told.seen c.args.start) _ _ c.as_slice.ensures.value c.in-Ok.ensures.closed _ c.in-Ok-keep.ensures.kept

pub returns-in-Ok-keep-clause-crash : goal.returns-in-Ok-keep-clause-crash
returns-in-Ok-keep-clause-crash g c =
    before_or_holds (IsClosed (WasHad g.J.Naming.frames g.J.Naming.base) g.J.Naming.base c.prepare_last.new.session.told.seen c.args.start) _ _ c.as_slice.ensures.value c.in-Ok.ensures.closed _ _ c.keep.ensures.crash

pub returns-in-Err-Short-clause-crash : goal.returns-in-Err-Short-clause-crash
returns-in-Err-Short-clause-crash g c =
    before_or_holds (IsClosed (WasHad g.J.Naming.frames g.J.Naming.base) g.J.Naming.base c.prepare_last.new.session.told.seen c.args.start) _ _ c.as_slice.ensures.value c.in-Ok.ensures.closed _ _ c.keep.ensures.crash
