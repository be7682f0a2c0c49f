use Rattle.server.proofs.Visiting.{first_decides}
use Rattle.server.proofs.agenda.Agenda.has_removal.Goals as goal

-- the first Delete decides
pub returns-in-Some : goal.returns-in-Some
returns-in-Some c = first_decides c.args.floor _ _ c.args.self.now.deleted.entries c.in-Some.ensures.first c.in-Some.ensures.all_from
