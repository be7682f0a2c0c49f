use Rattle.std.proofs.Common.{sym, subst}
use Rattle.s4_types.specs.declared.versions.Version.{Version}
use Rattle.s4_types.specs.declared.versions.Version.TheVariants.{Live}
use Rattle.history_restore.specs.Plans.{IsPlan, IsPlanBetween}
use Rattle.history_restore.proofs.plans.plan_of.Goals as goal

pub returns-in-Live-now-2-clause-plan : goal.returns-in-Live-now-2-clause-plan
returns-in-Live-now-2-clause-plan c =
    let plan = c.plan_between.result in
    let was = c.in-Live in
    let is = c.in-Live-now-2 in
    let planned : IsPlanBetween was.bytes was.attribute is.bytes_now is.attribute_now plan =
    rw (c.as_slice-in-Live-now-2.ensures, c.as_slice-in-Live-now-2-2.ensures, c.as_slice-in-Live-now-2-3.ensures, c.as_slice-in-Live-now-2-4.ensures) at c.plan_between.ensures.plan in
    subst (λ (v : Version). IsPlan v c.args.now.now plan) (sym was.is)
    (subst (λ (v : Version). IsPlan (Live was.bytes was.attribute was.created was.changed) v plan) (sym is.is) planned)
