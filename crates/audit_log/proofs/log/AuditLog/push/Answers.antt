use Rattle.std.proofs.Common.{◌<◌, sym, subst}
use Rattle.std.specs.List.{AllByRecursion}
use Rattle.audit_log.specs.Log.{LogFields}
use Rattle.s4_model.specs.Audit.{MomentsAscend}
use Rattle.audit_log.proofs.Rows.{ascend_push}
use Rattle.audit_log.proofs.log.AuditLog.push.Goals as goal

pub invariant_of-self : goal.invariant_of-self
invariant_of-self c =
    subst MomentsAscend (sym c.push_back_reserved.ensures.items)
    (ascend_push c.self.inside.rows.items c.args.row c.self.invariant
    (subst (λ (l : LogFields). AllByRecursion (λ other. other.moment < c.args.row.moment) l.rows) (sym c.self.view_is) c.requires.later))
