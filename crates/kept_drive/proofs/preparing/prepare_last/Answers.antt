use Rattle.std.proofs.Common.{ℕ, List, subst, sym}
use Rattle.kept_drive.specs.Collecting.{WasHad}
use Rattle.kept_drive.specs.Images.{IsClosed}
use Rattle.kept_drive.proofs.preparing.prepare_last.Goals as goal

pub returns-clause-closed : goal.returns-clause-closed
returns-clause-closed g c =
    subst (λ (bytes : List ℕ). IsClosed (WasHad g.J.Naming.frames g.J.Naming.base) g.J.Naming.base c.collect_last.new.session.told.seen c.args.start bytes)
    (sym {A = List ℕ} c.in_ok-push_digest.ensures.items) c.in_ok-last.ensures.closed
