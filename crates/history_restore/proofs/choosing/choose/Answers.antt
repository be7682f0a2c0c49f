use Rattle.std.proofs.Common.{◌≡◌, ◌∙◌, false}
use Rattle.drive.specs.Fields.{state_in, store_of}
use Rattle.history_restore.specs.declared.plans.Plan.TheVariants.{Change}
use Rattle.history_restore.specs.Plans.{IsPlan, is_joined, runs_between}
use Rattle.history_restore.proofs.Joined.{count_is, joined_is, joined_runs, plan_is, single_runs, taken_joined, taken_single}
use Rattle.history_restore.proofs.choosing.choose.Goals as goal

pub returns-in_default-clause-runs : goal.returns-in_default-clause-runs
returns-in_default-clause-runs g c =
    let read = c.in_ok-compared.compared in
    single_runs read.earlier read.latest c.plan_of-plan.result read.runs.items c.in_ok-compared.ensures.runs c.plan_of-plan.ensures.apart

pub returns-in_default-clause-taken : goal.returns-in_default-clause-taken
returns-in_default-clause-taken g c =
    let d = c.args.drive.now in
    let middle = c.compare.new.drive in
    let read = c.in_ok-compared.compared in
    taken_single (state_in d) (state_in middle) (store_of d) (store_of middle) c.args.aim.now c.args.at read.earlier read.latest c.plan_of-plan.result
    c.in_ok-compared.ensures.earlier c.in_ok-compared.ensures.latest c.compare.ensures.state c.compare.ensures.store c.plan_of-plan.ensures.plan c.plan_of-plan.ensures.apart c.in_default.ensures.full

pub returns-clause-runs : goal.returns-clause-runs
returns-clause-runs g c =
    let read = c.in_ok-compared.compared in
    joined_runs read.earlier read.latest c.joined_plan-plan.result c.in-Ok.runs.items c.in-Ok.ensures (joined_is c.in-Some.changes c.as_slice.result.now c.joined_plan-plan.result c.joined_plan-plan.ensures)

pub returns-clause-plan : goal.returns-clause-plan
returns-clause-plan g c =
    let read = c.in_ok-compared.compared in
    let single : IsPlan read.earlier read.latest (Change c.in-Some.changes) = rw c.in-Some.ensures.full.0 at c.plan_of-plan.ensures.plan in
    let found : c.as_slice.result.now ≡ runs_between 1 read.earlier read.latest = c.as_slice.ensures.value ∙ c.in-Ok.ensures in
    plan_is read.earlier read.latest c.in-Some.changes c.as_slice.result.now c.joined_plan-plan.result c.joined_plan-plan.ensures found single

pub returns-clause-taken : goal.returns-clause-taken
returns-clause-taken g c =
    let d = c.args.drive.now in
    let middle = c.compare.new.drive in
    let read = c.in_ok-compared.compared in
    let changes = c.in-Some.changes in
    let is = c.in-Some.ensures.full in
    let single : IsPlan read.earlier read.latest (Change changes) = rw is.0 at c.plan_of-plan.ensures.plan in
    let apart : is_joined (Change changes) ≡ false = rw is.0 at c.plan_of-plan.ensures.apart in
    let full = rw is.0 at is.1 in
    let found : c.as_slice.result.now ≡ runs_between 1 read.earlier read.latest = c.as_slice.ensures.value ∙ c.in-Ok.ensures in
    taken_joined (state_in d) (state_in middle) (store_of d) (store_of middle) c.args.aim.now c.args.at read.earlier read.latest (Change changes) c.joined_plan-plan.result
    c.in_ok-compared.ensures.earlier c.in_ok-compared.ensures.latest c.compare.ensures.state c.compare.ensures.store single apart full
    (joined_is changes c.as_slice.result.now c.joined_plan-plan.result c.joined_plan-plan.ensures)
    (count_is read.earlier read.latest changes c.as_slice.result.now c.joined_plan-plan.result c.joined_plan-plan.ensures found single apart)
