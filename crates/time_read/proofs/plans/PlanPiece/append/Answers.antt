use Rattle.std.proofs.Common.{sym, ap, ◌∙◌}
use Rattle.time_read.specs.private.Sources.{piece_from}
use Rattle.time_read.proofs.plans.PlanPiece.append.Goals as goal

pub append_pinned-requires-clause-counted : goal.append_pinned-requires-clause-counted
append_pinned-requires-clause-counted c = c.requires.counted c.in-Frame.frame c.in-Frame.block (sym c.self.view_is ∙ ap piece_from c.in-Frame.is)
