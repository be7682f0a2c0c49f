use Rattle.std.proofs.Common.{subst}
use mathlib.Core.List.{IsPrefix}
use Rattle.s4_types.specs.History.{accepted}
use Rattle.drive.specs.Fields.{DriveFields, history_of}
use Rattle.kept_drive.proofs.SeeingMore.{caught_up_more}
use Rattle.kept_drive.proofs.laws.sessions_have_seen_one_list.Goals as goal

pub returns-clause-one : goal.returns-clause-one
returns-clause-one g c = c.meet.ensures.before.seen

pub returns-clause-other : goal.returns-clause-other
returns-clause-other g c = subst (λ (d : DriveFields). IsPrefix c.args.other.now.told.seen (accepted (history_of d))) c.meet.ensures.same c.meet-2.ensures.before.seen

pub returns-clause-met_one : goal.returns-clause-met_one
returns-clause-met_one g c = caught_up_more c.args.drive.now.ledger _ _ c.meet.ensures.session c.meet.ensures.grows

pub returns-clause-met_other : goal.returns-clause-met_other
returns-clause-met_other g c = caught_up_more c.meet.new.self.ledger _ _ c.meet-2.ensures.session c.meet-2.ensures.grows
