-- A plan by joined runs in place of one by single runs.
use Rattle.std.proofs.Common.{◌≡◌, ◌∙◌, ◌≤◌, min, ℕ, Bool, true, false, List, length, inl, inr, refl, sym, ap, subst, arith}
use Rattle.std.proofs.lemmas.Bool.{cases_Bool}
use Rattle.s4_types.specs.declared.versions.Version.{Version}
use Rattle.s4_types.specs.declared.versions.Version.TheVariants.{Absent, Live}
use Rattle.s4_model.specs.Refusals.{last_number}
use Rattle.s4_model.specs.State.{State}
use Rattle.s4_model.specs.VersionAt.{version_of}
use Rattle.s4_model.specs.Refusals.{present}
use Rattle.version_store.specs.Store.{StoreFields}
use Rattle.history_view.specs.Contents.{content_of as bytes_of}
use Rattle.block_runs.specs.declared.running.Run.{Run}
use Rattle.block_runs.specs.Blocks.{blocks_in_all}
use Rattle.block_runs.specs.Runs.{runs_to}
use Rattle.block_runs.proofs.Fewer.{joined_runs_are_fewer}
use Rattle.history_restore.specs.declared.aims.Aim.{Aim}
use Rattle.history_restore.specs.declared.plans.Changes.{Changes}
use Rattle.history_restore.specs.declared.plans.Plan.{Plan}
use Rattle.history_restore.specs.declared.plans.Plan.TheVariants.{Keep, Change}
use Rattle.history_restore.specs.Plans.{IsChangesOf, IsPlan, IsPlanBetween, change_count, changes_of, gap_of, is_idle, is_joined, runs_between, runs_planned}
use Rattle.history_restore.specs.Joining.{IsTaken, is_too_full, is_too_long}
use Rattle.history_restore.proofs.Again.{idle_is_same, keeps_between}

-- changes with these runs
abbrev pub with_runs : Changes → List Run → Changes
with_runs changes runs = record changes { writes = length runs; joined = true; blocks = min last_number (blocks_in_all runs) }

changes_joined : (bytes attribute now attribute_now : List ℕ) (changes : Changes) → IsChangesOf bytes attribute now attribute_now changes → IsChangesOf bytes attribute now attribute_now (with_runs changes (runs_to 1 bytes now))
changes_joined bytes attribute now attribute_now changes is = record { shorter = is.shorter; rewritten = refl; blocks = refl; replaced = is.replaced }

-- an object that is kept isn't changed
never_kept : (bytes attribute now attribute_now : List ℕ) (changes : Changes) → IsPlanBetween bytes attribute now attribute_now (Change changes) → bytes ≡ now → attribute ≡ attribute_now → ⊥
never_kept bytes attribute now attribute_now changes is same named =
    let kept : Change changes ≡ Keep =
    keeps_between bytes attribute (Change changes)
    (subst (λ (b : List ℕ). IsPlanBetween bytes attribute b attribute (Change changes)) (sym same)
    (subst (λ (a : List ℕ). IsPlanBetween bytes attribute now a (Change changes)) (sym named) is)) in
    cc

planned_between : (bytes attribute now attribute_now : List ℕ) (changes : Changes) → IsPlanBetween bytes attribute now attribute_now (Change changes)
    → IsPlanBetween bytes attribute now attribute_now (Change (with_runs changes (runs_to 1 bytes now)))
planned_between bytes attribute now attribute_now changes is =
    let joined = changes_joined bytes attribute now attribute_now changes is.0 in
    elim (cases_Bool (is_idle (with_runs changes (runs_to 1 bytes now)))) [
      | inl idle ↦ let same = idle_is_same bytes attribute now attribute_now (with_runs changes (runs_to 1 bytes now)) joined idle in absurd (never_kept bytes attribute now attribute_now changes is same.0 same.1)
      | inr busy ↦ (joined, busy)
    ]

-- so it is one of the object's plans
pub planned_joined : (before now : Version) (changes : Changes) → IsPlan before now (Change changes) → IsPlan before now (Change (with_runs changes (runs_between 1 before now)))
planned_joined Absent Absent changes is = let none : ⊥ = cc in absurd none
planned_joined Absent (Live now attribute_now created changed) changes is = let none : ⊥ = cc in absurd none
planned_joined (Live bytes attribute made moved) Absent changes is = absurd is
planned_joined (Live bytes attribute made moved) (Live now attribute_now created changed) changes is = planned_between bytes attribute now attribute_now changes is

-- it has no more changes
writes_of : (before now : Version) (changes : Changes) → IsPlan before now (Change changes) → changes.joined ≡ false → changes.writes ≡ length (runs_between 0 before now)
writes_of Absent Absent changes is apart = let none : ⊥ = cc in absurd none
writes_of Absent (Live now attribute_now created changed) changes is apart = let none : ⊥ = cc in absurd none
writes_of (Live bytes attribute made moved) Absent changes is apart = absurd is
writes_of (Live bytes attribute made moved) (Live now attribute_now created changed) changes is apart = is.0.rewritten ∙ ap (λ b. length (runs_to (gap_of b) bytes now)) apart

pub fewer_changes : (before now : Version) (changes : Changes) → IsPlan before now (Change changes) → changes.joined ≡ false → change_count (Change (with_runs changes (runs_between 1 before now))) ≤ change_count (Change changes)
fewer_changes before now changes is apart = omega (arith, joined_runs_are_fewer 1 (bytes_of before) (bytes_of now), writes_of before now changes is apart)

-- ---- what was planned with runs that were found

pub joined_is : (changes : Changes) (runs : List Run) (plan : Plan) → plan ≡ Change (with_runs changes runs) → is_joined plan ≡ true
joined_is changes runs plan is = ap is_joined is

pub plan_is : (before now : Version) (changes : Changes) (runs : List Run) (plan : Plan) → plan ≡ Change (with_runs changes runs) → runs ≡ runs_between 1 before now → IsPlan before now (Change changes) → IsPlan before now plan
plan_is before now changes runs plan is found single =
    subst (IsPlan before now) (sym (is ∙ ap (λ (rs : List Run). Change (with_runs changes rs)) found)) (planned_joined before now changes single)

pub count_is : (before now : Version) (changes : Changes) (runs : List Run) (plan : Plan) → plan ≡ Change (with_runs changes runs) → runs ≡ runs_between 1 before now → IsPlan before now (Change changes) → changes.joined ≡ false → change_count plan ≤ change_count (Change changes)
count_is before now changes runs plan is found single apart =
    subst (λ (p : Plan). change_count p ≤ change_count (Change changes)) (sym (is ∙ ap (λ (rs : List Run). Change (with_runs changes rs)) found)) (fewer_changes before now changes single apart)

-- ---- which plan is taken

-- by what was read of an object
read_plan : (s : State) (aim : Aim) (at : ℕ) (before now : Version) (plan : Plan) → before ≡ version_of s aim.object at → now ≡ present s aim.target → IsPlan before now plan → IsPlan (version_of s aim.object at) (present s aim.target) plan
read_plan s aim at before now plan was is planned = subst (λ (v : Version). IsPlan (version_of s aim.object at) v plan) is (subst (λ (v : Version). IsPlan v now plan) was planned)

read_full : (s read : State) (store held : StoreFields) (aim : Aim) (at : ℕ) (before now : Version) (plan : Plan) → before ≡ version_of s aim.object at → now ≡ present s aim.target → read ≡ s → held ≡ store
    → is_too_full store s.clock aim.target (version_of s aim.object at) (present s aim.target) plan ≡ is_too_full held read.clock aim.target before now plan
read_full s read store held aim at before now plan was is same kept =
    ap (λ (v : Version). is_too_full store s.clock aim.target v (present s aim.target) plan) (sym was)
    ∙ ap (λ (v : Version). is_too_full store s.clock aim.target before v plan) (sym is)
    ∙ ap (λ (t : State). is_too_full store t.clock aim.target before now plan) (sym same)
    ∙ ap (λ (k : StoreFields). is_too_full k read.clock aim.target before now plan) (sym kept)

pub taken_single : (s read : State) (store held : StoreFields) (aim : Aim) (at : ℕ) (before now : Version) (plan : Plan) → before ≡ version_of s aim.object at → now ≡ present s aim.target → read ≡ s → held ≡ store → IsPlan before now plan → is_joined plan ≡ false
    → is_too_full held read.clock aim.target before now plan ≡ false → IsTaken s store aim at plan
taken_single s read store held aim at before now plan was is same kept planned apart fits = record {
  single = plan;
  planned = read_plan s aim at before now plan was is planned;
  apart = apart;
  why = apart ∙ sym (read_full s read store held aim at before now plan was is same kept ∙ fits);
  fewer = omega arith;
}

pub taken_joined : (s read : State) (store held : StoreFields) (aim : Aim) (at : ℕ) (before now : Version) (single plan : Plan) → before ≡ version_of s aim.object at → now ≡ present s aim.target → read ≡ s → held ≡ store → IsPlan before now single → is_joined single ≡ false
    → is_too_full held read.clock aim.target before now single ≡ true → is_joined plan ≡ true → change_count plan ≤ change_count single → IsTaken s store aim at plan
taken_joined s read store held aim at before now single plan was is same kept planned apart full joined fewer = record {
  single = single;
  planned = read_plan s aim at before now single was is planned;
  apart = apart;
  why = joined ∙ sym (read_full s read store held aim at before now single was is same kept ∙ full);
  fewer = fewer;
}

-- ---- and which runs are written

pub single_runs : (before now : Version) (plan : Plan) (runs : List Run) → runs ≡ runs_between 0 before now → is_joined plan ≡ false → runs ≡ runs_planned plan before now
single_runs before now plan runs found apart = found ∙ ap (λ (joined : Bool). runs_between (gap_of joined) before now) (sym apart)

pub joined_runs : (before now : Version) (plan : Plan) (runs : List Run) → runs ≡ runs_between 1 before now → is_joined plan ≡ true → runs ≡ runs_planned plan before now
joined_runs before now plan runs found joined = found ∙ ap (λ (b : Bool). runs_between (gap_of b) before now) (sym joined)

-- ---- whether a journal is too full

pub full_is : (store : StoreFields) (clock o : ℕ) (before now : Version) (runs : List Run) (changes : Changes) (plan : Plan) (b : Bool) → plan ≡ Change changes → runs ≡ runs_between 0 before now → b ≡ is_too_long store clock o (changes_of before runs changes o)
    → is_too_full store clock o before now plan ≡ b
full_is store clock o before now runs changes plan b plan_is found long =
    ap (is_too_full store clock o before now) plan_is
    ∙ ap (λ (rs : List Run). is_too_long store clock o (changes_of before rs changes o)) (sym found)
    ∙ sym long
