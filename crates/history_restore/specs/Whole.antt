-- What restoring all objects of a drive comes to.
use Rattle.std.specs.Prelude.{◌≡◌, ◌≢◌, ℕ, ◌+◌, ◌<◌, List, [], ◌∷◌, map, ◌||◌, not, Bool, None}
use Rattle.std.specs.List.{AllByRecursion}
use Rattle.s4_types.specs.declared.refusals.Refusal.TheVariants.{NoMemory}
use Rattle.s4_model.specs.State.{State}
use Rattle.s4_model.specs.VersionAt.{version_of}
use Rattle.s4_model.specs.Visible.{IsVisible}
use Rattle.s4_model.specs.Refusals.{present}
use Rattle.version_store.specs.Store.{StoreFields}
use Rattle.history_restore.specs.declared.aims.Aim.{Aim}
use Rattle.history_restore.specs.declared.failures.Failure.{Failure}
use Rattle.history_restore.specs.declared.restoring.Restored.{Restored}
use Rattle.history_restore.specs.Content.{content_of}
use Rattle.history_restore.specs.Asking.{IsMovedBy}
use Rattle.history_restore.specs.declared.planning.ObjectPlan.{ObjectPlan}
use Rattle.history_restore.specs.declared.plans.Plan.{Plan}
use Rattle.history_restore.specs.declared.plans.Plan.TheVariants.{Keep}
use Rattle.history_restore.specs.Plans.{IsPlan, change_count, number_by, next_by_plan}
use Rattle.history_restore.specs.Planning.{changes_planned, is_older}
use Rattle.history_restore.specs.Joining.{IsTaken}
use Rattle.history_restore.specs.Keeping.{IsDatedFrom, LeavesOthers, LeavesPast}
use Rattle.history_restore.specs.Restoring.{IsStopped, Restores, StoresPlan, number_after}

-- An object is now what it was at a moment, under its number; the plan was made of what it was then and when restoring began.
pub record IsRestored (s later : State) (at : ℕ) (restored : Restored) : Type 0 where
  pub visible : IsVisible s restored.aim.object at
  pub planned : IsPlan (version_of s restored.aim.object at) (present s restored.aim.target) restored.plan
  pub content : content_of (present later restored.number) ≡ content_of (version_of s restored.aim.object at)

-- Each object that was made anew has the next free number, in order, and each other has the one under which it was compared: so all numbers
-- are different.
abbrev pub AreNumbered : ℕ → List Restored → Type 0
AreNumbered next [] = Unit {0}
AreNumbered next (r ∷ all) = (r.number ≡ number_by r.plan next r.aim.target) × AreNumbered (next_by_plan r.plan next) all

-- what was planned for an object
abbrev pub planned_of : Restored → ObjectPlan
planned_of r = record { aim = r.aim; plan = r.plan }

abbrev pub plans_of : List Restored → List ObjectPlan
plans_of all = map planned_of all

-- how many changes their plans have together
abbrev pub changes_of_all : List Restored → ℕ
changes_of_all all = changes_planned (plans_of all)

-- how many of them were made anew
abbrev pub made_anew : List Restored → ℕ
made_anew [] = 0
made_anew (r ∷ all) = next_by_plan r.plan 0 + made_anew all

-- The next number is one more for each object that was made anew. The first change of the plans has the greater of the moment that is given and
-- of the first after the clock, and each further one the next. So every version before the moment that is given is what it was.
pub record IsCounted (s later : State) (now : ℕ) (all : List Restored) : Type 0 where
  pub next : later.next ≡ s.next + made_anew all
  pub moved : IsMovedBy s now (changes_of_all all) later
  pub dated : IsDatedFrom now s later

-- what these objects were restored under
abbrev pub aims_of : List Restored → List Aim
aims_of all = map (λ (r : Restored). r.aim) all

-- Objects were restored, in order, and no other one was touched that was there or had been.
pub record RestoresEach (s later : State) (at : ℕ) (aims : List Aim) (all : List Restored) : Type 0 where
  pub aims_are : aims_of all ≡ aims
  pub each : AllByRecursion (IsRestored s later at) all
  pub numbered : AreNumbered s.next all

-- Objects that nothing is restored under are what they were.
abbrev pub LeavesRest : State → State → List Aim → Type 0
LeavesRest s later aims = (q : ℕ) → q < s.next → AllByRecursion (λ (a : Aim). q ≢ a.target) aims → present later q ≡ present s q

-- whether a plan is carried out: where newer objects are kept, of one that wasn't made since
abbrev pub is_chosen : Bool → ObjectPlan → Bool
is_chosen keep_newer p = not keep_newer || is_older p.plan

-- An object was restored over a state and its store: by the changes of the plan that is taken of it, one after the other, and nothing else was
-- done.
pub record RestoresOver (s : State) (store : StoreFields) (now at : ℕ) (aim : Aim) (restored : Restored) (later : State) (after : StoreFields) : Type 0 where
  pub restores : Restores s later aim at restored
  pub taken : IsTaken s store aim at restored.plan
  pub stored : StoresPlan s aim at store after restored
  pub moved : IsMovedBy s now (change_count restored.plan) later
  pub dated : IsDatedFrom now s later
  pub others : LeavesOthers (number_after s aim at) s later
  pub past : LeavesPast s later

-- These were, one after the other, each over what those in front of it left.
abbrev pub RestoresInTurn : State → StoreFields → ℕ → ℕ → List Restored → State → StoreFields → Type 0
RestoresInTurn s store now at [] later after = (later ≡ s) × (after ≡ store)
RestoresInTurn s store now at (r ∷ all) later after = (middle : State) × (between : StoreFields) × RestoresOver s store now at r.aim r middle between × RestoresInTurn middle between now at all later after

-- Why not all objects were restored: one of them wasn't, over the drive as it was then, to which the objects before it had led; or there was no
-- memory for a list.
pub record StopsOver (s middle later : State) (at : ℕ) (failure : Failure) : Type 0 where
  pub before : LeavesPast s middle
  pub stopped : IsStopped middle later failure.aim at failure

pub data StopsAll (s later : State) (at : ℕ) (failure : Failure) : Type 0 where
  AtObject : (middle : State) → StopsOver s middle later at failure → StopsAll s later at failure
  ForMemory : failure.refusal ≡ NoMemory → failure.flush ≡ None → StopsAll s later at failure

-- Once objects were restored, and nothing was changed since, each is what it was under its number: the only plan of it is to keep it.
abbrev pub ASecondRestoreDoesNothing : Type 0
ASecondRestoreDoesNothing = (s later : State) (at : ℕ) (all : List Restored) → LeavesPast s later → AllByRecursion (IsRestored s later at) all
    → AllByRecursion (λ (r : Restored). (plan : Plan) → IsPlan (version_of later r.aim.object at) (present later r.number) plan → plan ≡ Keep) all
