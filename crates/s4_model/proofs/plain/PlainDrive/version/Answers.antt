use Rattle.s4_model.proofs.PlainLemmas.{IfOk-version_of_new, IfOk-limits}
use Rattle.s4_model.proofs.plain.PlainDrive.version.Goals as goal

pub returns-clause-ok : goal.returns-clause-ok
returns-clause-ok c =
    rw (← c.self.view_is) (IfOk-version_of_new c.version_at.result c.self.inside.clock _ c.self.inside.changes.items c.args.object c.args.at c.as_slice.ensures.value c.self.invariant c.version_at.ensures.ok)

pub returns-clause-limits : goal.returns-clause-limits
returns-clause-limits c =
    IfOk-limits c.version_at.result c.self.inside.clock _ c.self.inside.changes.items c.args.object c.args.at c.as_slice.ensures.value c.self.invariant c.version_at.ensures.ok
