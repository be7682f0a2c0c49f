use Rattle.std.proofs.Common.{◌≡◌, ◌∙◌, ℕ, List, length, refl, sym, ap, subst}
use Rattle.s4_types.specs.declared.changes.Change.{Change}
use Rattle.s4_types.specs.declared.refusals.Refusal.{Refusal}
use Rattle.s4_types.specs.declared.versions.Version.{Version}
use Rattle.s4_model.specs.State.{State}
use Rattle.s4_model.specs.VersionAt.{version_of}
use Rattle.version_store.specs.Store.{StoreFields}
use Rattle.drive.specs.Fields.{state_in, store_of}
use Rattle.history_view.specs.Contents.{content_of as bytes_of}
use Rattle.block_runs.specs.declared.running.Run.{Run}
use Rattle.history_restore.specs.declared.aims.Aim.{Aim}
use Rattle.history_restore.specs.declared.failures.Failure.{Failure}
use Rattle.history_restore.specs.declared.plans.Plan.{Plan}
use Rattle.s4_model.specs.Refusals.{present}
use Rattle.history_restore.specs.Content.{content_of}
use Rattle.history_restore.specs.Asking.{AreStored, OneTakesTooMuch, clock_by, is_of_room}
use Rattle.history_restore.specs.Plans.{IsPlan, IsWithinPlan, changes_by, next_by_plan, number_by, runs_planned, turned}
use Rattle.history_restore.specs.Restoring.{changes_for}
use Rattle.history_restore.proofs.Counted.{counts_changes}
use Rattle.history_restore.proofs.Turning.{turns_back, within_plan}
use Rattle.history_restore.proofs.Back.{number_planned}
use Rattle.history_restore.proofs.restoring.restore_object.Goals as goal

pub perform-requires : goal.perform-requires
perform-requires g c =
    let before = c.in-Ok.chosen.compared.earlier in
    let latest = c.in-Ok.chosen.compared.latest in
    let plan = c.in-Ok.chosen.plan in
    let runs : c.as_slice-runs.result.now ≡ runs_planned plan before latest = c.as_slice-runs.ensures.value ∙ c.in-Ok.ensures.runs in
    subst (λ (rs : List Run). IsWithinPlan (bytes_of before) rs plan) (sym runs) (within_plan before latest plan c.in-Ok.ensures.plan)

pub returns-in-Ok-perform-clause-moved : goal.returns-in-Ok-perform-clause-moved
returns-in-Ok-perform-clause-moved g c =
    let now = c.args.now in
    let before = c.in-Ok.chosen.compared.earlier in
    let latest = c.in-Ok.chosen.compared.latest in
    let plan = c.in-Ok.chosen.plan in
    let o = c.args.aim.now.target in
    let runs : c.as_slice-runs.result.now ≡ runs_planned plan before latest = c.as_slice-runs.ensures.value ∙ c.in-Ok.ensures.runs in
    c.in-Ok-perform.ensures.asked.moved
    ∙ ap (λ (rs : List Run). clock_by (state_in c.choose.new.drive).clock now (length (changes_by before rs plan (state_in c.choose.new.drive).next o))) runs
    ∙ ap (λ (s : State). clock_by s.clock now (length (changes_by before (runs_planned plan before latest) plan s.next o))) c.choose.ensures.state
    ∙ ap (clock_by (state_in c.args.drive.now).clock now) (counts_changes before latest plan (state_in c.args.drive.now).next o c.in-Ok.ensures.plan)

pub returns-in-Ok-perform-clause-stored : goal.returns-in-Ok-perform-clause-stored
returns-in-Ok-perform-clause-stored g c =
    let s = state_in c.args.drive.now in
    let aim = c.args.aim.now in
    let before = c.in-Ok.chosen.compared.earlier in
    let latest = c.in-Ok.chosen.compared.latest in
    let plan = c.in-Ok.chosen.plan in
    let middle = c.choose.new.drive in
    let later = store_of c.perform.new.drive in
    let was : Version = version_of s aim.object c.args.at in
    let runs : c.as_slice-runs.result.now ≡ runs_planned plan before latest = c.as_slice-runs.ensures.value ∙ c.in-Ok.ensures.runs in
    let asked : List Change = changes_by before c.as_slice-runs.result.now plan (state_in middle).next aim.target in
    let is : asked ≡ changes_for s aim c.args.at plan =
    ap (λ (rs : List Run). changes_by before rs plan (state_in middle).next aim.target) runs
    ∙ ap (λ (k : State). changes_by before (runs_planned plan before latest) plan k.next aim.target) c.choose.ensures.state
    ∙ ap (λ (v : Version). changes_by v (runs_planned plan v latest) plan s.next aim.target) c.in-Ok.ensures.earlier
    ∙ ap (λ (v : Version). changes_by was (runs_planned plan was v) plan s.next aim.target) c.in-Ok.ensures.latest in
    subst (λ (cs : List Change). AreStored (store_of c.args.drive.now) cs later) is
    (subst (λ (store : StoreFields). AreStored store asked later) c.choose.ensures.store c.in-Ok-perform.ensures.asked.stored)

-- a plan by what was read of an object is one by its versions
planned_by : (s : State) (aim : Aim) (at : ℕ) (before latest : Version) (plan : Plan) → before ≡ version_of s aim.object at → latest ≡ present s aim.target → IsPlan before latest plan → IsPlan (version_of s aim.object at) (present s aim.target) plan
planned_by s aim at before latest plan was is planned =
    subst (λ (v : Version). IsPlan (version_of s aim.object at) v plan) is (subst (λ (v : Version). IsPlan v latest plan) was planned)

pub returns-in-Ok-perform-clause-restored : goal.returns-in-Ok-perform-clause-restored
returns-in-Ok-perform-clause-restored g c =
    let s = state_in c.args.drive.now in
    let aim = c.args.aim.now in
    let before = c.in-Ok.chosen.compared.earlier in
    let latest = c.in-Ok.chosen.compared.latest in
    let plan = c.in-Ok.chosen.plan in
    let middle = state_in c.choose.new.drive in
    let later = state_in c.perform.new.drive in
    let planned : IsPlan (version_of s aim.object c.args.at) (present s aim.target) plan = planned_by s aim c.args.at before latest plan c.in-Ok.ensures.earlier c.in-Ok.ensures.latest c.in-Ok.ensures.plan in
    let runs : c.as_slice-runs.result.now ≡ runs_planned plan before latest = c.as_slice-runs.ensures.value ∙ c.in-Ok.ensures.runs in
    record {
      aim_is = refl;
      visible = c.in-Ok.ensures.visible;
      planned = planned;
      number = c.in-Ok-perform.ensures.number ∙ ap (λ (k : State). number_by plan k.next aim.target) c.choose.ensures.state ∙ number_planned s aim c.args.at plan planned;
      next = c.in-Ok-perform.ensures.next ∙ ap (λ (k : State). next_by_plan plan k.next) c.choose.ensures.state;
      content = ap (λ (n : ℕ). content_of (present later n)) c.in-Ok-perform.ensures.number
          ∙ c.in-Ok-perform.ensures.content
          ∙ ap (λ (rs : List Run). content_of (turned before rs plan aim.target 0 (present middle aim.target))) runs
          ∙ ap (λ (k : State). content_of (turned before (runs_planned plan before latest) plan aim.target 0 (present k aim.target))) c.choose.ensures.state
          ∙ ap (λ (v : Version). content_of (turned before (runs_planned plan before latest) plan aim.target 0 v)) (sym c.in-Ok.ensures.latest)
          ∙ turns_back before latest plan aim.target 0 c.in-Ok.ensures.plan
          ∙ ap content_of c.in-Ok.ensures.earlier;
    }

pub returns-clause-lacks : goal.returns-clause-lacks
returns-clause-lacks g c =
    let s = state_in c.args.drive.now in
    let store = store_of c.args.drive.now in
    let aim = c.args.aim.now in
    let before = c.in-Ok.chosen.compared.earlier in
    let latest = c.in-Ok.chosen.compared.latest in
    let plan = c.in-Ok.chosen.plan in
    let middle = c.choose.new.drive in
    let was : Version = version_of s aim.object c.args.at in
    let runs : c.as_slice-runs.result.now ≡ runs_planned plan before latest = c.as_slice-runs.ensures.value ∙ c.in-Ok.ensures.runs in
    let asked : List Change = changes_by before c.as_slice-runs.result.now plan (state_in middle).next aim.target in
    let is : asked ≡ changes_for s aim c.args.at plan =
    ap (λ (rs : List Run). changes_by before rs plan (state_in middle).next aim.target) runs
    ∙ ap (λ (k : State). changes_by before (runs_planned plan before latest) plan k.next aim.target) c.choose.ensures.state
    ∙ ap (λ (v : Version). changes_by v (runs_planned plan v latest) plan s.next aim.target) c.in-Ok.ensures.earlier
    ∙ ap (λ (v : Version). changes_by was (runs_planned plan was v) plan s.next aim.target) c.in-Ok.ensures.latest in
    let same : c.stopped.result.refusal ≡ c.in-Err-perform.refusal = ap (λ (f : Failure). f.refusal) c.stopped.ensures in
    λ of. record {
      plan = plan;
      planned = planned_by s aim c.args.at before latest plan c.in-Ok.ensures.earlier c.in-Ok.ensures.latest c.in-Ok.ensures.plan;
      taken = c.in-Ok.ensures.taken;
      lacks = subst (λ (e : Refusal). OneTakesTooMuch e store (changes_for s aim c.args.at plan)) (sym same)
          (subst (OneTakesTooMuch c.in-Err-perform.refusal store) is
          (subst (λ (k : StoreFields). OneTakesTooMuch c.in-Err-perform.refusal k asked) c.choose.ensures.store (c.in-Err-perform.ensures.asked.lacks (sym (ap is_of_room same) ∙ of))));
    }
