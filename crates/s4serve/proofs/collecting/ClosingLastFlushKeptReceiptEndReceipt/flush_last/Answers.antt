use Rattle.std.proofs.Common.{ℕ, inl, inr, subst}
use Rattle.image_keeping.specs.Leaving.{IsKept}
use Rattle.kept_drive.specs.Collecting.{WasHad}
use Rattle.kept_drive.specs.Images.{IsClosed}
use Rattle.s4serve.proofs.collecting.ClosingLastFlushKeptReceiptEndReceipt.flush_last.Goals as goal

-- the drive was kept at its own clock
pub invariant_of-result : goal.invariant_of-result
invariant_of-result g c = inl (record {
  keeper = c.close.new.self.keeper;
  seen = c.close.new.self.session.told.seen;
  kept = subst (λ (start : ℕ). IsKept (g.K.Keeper.may_leave c.close.new.self.keeper) (IsClosed (WasHad g.J.Naming.frames g.J.Naming.base) g.J.Naming.base c.close.new.self.session.told.seen start)) c.args.self.now.began c.in_ok-close.ensures.kept;
})

-- or at the reach, where the image isn't where it was put
pub invariant_of-result-2 : goal.invariant_of-result-2
invariant_of-result-2 g c = inr (record {
  before = c.keeper.result.now;
  moved = search (c.is_in_place.ensures);
  keeper = c.flush.new.self.keeper;
  seen = c.flush.new.self.session.told.seen;
  last = c.deref_mut-2.result.now.reach;
  reach = c.flush.new.self.reach;
  kept = c.in_ok-flush.ensures.kept;
})
