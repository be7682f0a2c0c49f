use Rattle.std.proofs.Common.{ℕ, subst, sym}
use Rattle.std.proofs.lemmas.Result.{on_ok_weaker}
use Rattle.image_keeping.specs.Leaving.{IsKept}
use Rattle.kept_drive.specs.Collecting.{WasHad}
use Rattle.kept_drive.specs.Images.{IsFlushed}
use Rattle.s4serve.proofs.starting.serve_ready.Goals as goal

-- it was kept first where it begins
pub serve_kept-requires-clause-kept : goal.serve_kept-requires-clause-kept
serve_kept-requires-clause-kept g c =
    let first = c.in_ok-first.first.kept in
    λ lifetimes outlives. subst (λ (start : ℕ). IsKept (g.K.Keeper.may_leave first.keeper) (IsFlushed (WasHad g.J.Naming.frames g.J.Naming.base) g.J.Naming.base first.session.told.seen start first.reach)) (sym c.requires.starts) c.in_ok-first.ensures.kept

pub returns-clause-began : goal.returns-clause-began
returns-clause-began g c =
    let first = c.in_ok-first.first.kept in
    on_ok_weaker c.serve_kept.result (λ stopped. record {
      keeper = first.keeper;
      seen = first.session.told.seen;
      reach = first.reach;
      kept = subst (λ (start : ℕ). IsKept (g.K.Keeper.may_leave first.keeper) (IsFlushed (WasHad g.J.Naming.frames g.J.Naming.base) g.J.Naming.base first.session.told.seen start first.reach)) (sym c.requires.starts) c.in_ok-first.ensures.kept;
    }) c.serve_kept.ensures.stopped
