-- What restoring an object comes to.
use Rattle.std.specs.Prelude.{◌≡◌, ◌⊎◌, ℕ, ◌+◌, ◌-◌, nat_le, min, if◌then◌else◌, true, List, Option, None, Some}
use Rattle.s4_types.specs.declared.changes.Change.{Change}
use Rattle.s4_types.specs.declared.refusals.Refusal.{Refusal}
use Rattle.s4_types.specs.declared.refusals.Refusal.TheVariants.{ChainFull, NoMemory, Busy}
use Rattle.s4_types.specs.declared.spans.Span.{Span}
use Rattle.s4_types.specs.declared.versions.Version.{Version}
use Rattle.s4_types.specs.declared.versions.Version.TheVariants.{Absent, Live}
use Rattle.s4_model.specs.Limits.{IsWithinLimits}
use Rattle.s4_model.specs.State.{State}
use Rattle.s4_model.specs.VersionAt.{version_of}
use Rattle.s4_model.specs.Visible.{IsVisible}
use Rattle.s4_model.specs.Refusals.{present, moment_refusal, last_number}
use Rattle.version_store.specs.Store.{StoreFields}
use Rattle.history_restore.specs.declared.aims.Aim.{Aim}
use Rattle.history_restore.specs.declared.plans.Plan.{Plan}
use Rattle.history_restore.specs.declared.restoring.Restored.{Restored}
use Rattle.history_restore.specs.declared.failures.Failure.{Failure}
use Rattle.history_restore.specs.Asking.{AreStored, OneTakesTooMuch, is_left}
use Rattle.history_restore.specs.Content.{content_of, changed_in}
use Rattle.history_restore.specs.Joining.{IsTaken}
use Rattle.history_restore.specs.Plans.{IsPlan, changes_by, next_by_plan, runs_planned}

-- the number that an object has after it was restored under one, by what it was and what is there: the next one where nothing is
abbrev pub number_from : Version → Version → ℕ → ℕ → ℕ
number_from (Live bytes attribute created changed) Absent next o = next
number_from (Live bytes attribute created changed) (Live now attribute_now created_now changed_now) next o = o
number_from Absent now next o = o

abbrev pub number_after : State → Aim → ℕ → ℕ
number_after s aim at = number_from (version_of s aim.object at) (present s aim.target) s.next aim.target

-- An object was restored: what was planned was done, and under its number it has now the bytes and the attribute that it had at the moment,
-- or isn't there where it wasn't.
pub record Restores (s later : State) (aim : Aim) (at : ℕ) (restored : Restored) : Type 0 where
  pub aim_is : restored.aim ≡ aim
  pub visible : IsVisible s aim.object at
  pub planned : IsPlan (version_of s aim.object at) (present s aim.target) restored.plan
  pub number : restored.number ≡ number_after s aim at
  pub next : later.next ≡ next_by_plan restored.plan s.next
  pub content : content_of (present later restored.number) ≡ content_of (version_of s aim.object at)

-- Why an object's versions weren't read: its moment can't be, or for lack of memory or of a pin.
abbrev pub IsUnread : State → ℕ → ℕ → Refusal → Type 0
IsUnread s o at refusal = (moment_refusal s o at ≡ Some refusal) ⊎ ((refusal ≡ NoMemory) ⊎ (refusal ≡ Busy))

-- The moments of an object that nothing to be kept needs: those after the moment asked for and before its last change. Its version at the
-- former and its present one stay; the versions between them are what a flush frees.
abbrev pub between : ℕ → ℕ → Version → Option Span
between o at now = if nat_le (min (at + 1) last_number) (changed_in now - 1) then Some (record { object = o; first = min (at + 1) last_number; last = changed_in now - 1 }) else None

-- what to flush where a refusal is for a full journal
abbrev pub flush_for : ℕ → ℕ → Version → Refusal → Option Span
flush_for o at now ChainFull = between o at now
flush_for o at now _ = None

-- Why an object wasn't restored, and what that leaves: its versions weren't read, and the state is what it was; or the moment can be read
-- and a request was refused, which is for lack of memory or room, for a full journal or at the clock's end, of a version within the limits.
-- Where the journal is full, a flush is told.
pub record IsStopped (s later : State) (aim : Aim) (at : ℕ) (failure : Failure) : Type 0 where
  pub aim_is : failure.aim ≡ aim
  pub why : (IsUnread s aim.object at failure.refusal × (later ≡ s)) ⊎ (IsVisible s aim.object at × (IsWithinLimits (version_of s aim.object at) → is_left failure.refusal ≡ true))
  pub flush : failure.flush ≡ flush_for aim.target at (present s aim.target) failure.refusal

-- The changes that make an object what it was at a moment, by a plan: its writes are those of the runs of blocks that differ.
abbrev pub changes_for : State → Aim → ℕ → Plan → List Change
changes_for s aim at plan = changes_by (version_of s aim.object at) (runs_planned plan (version_of s aim.object at) (present s aim.target)) plan s.next aim.target

-- An object was restored by these changes, one after the other, and nothing else was stored.
abbrev pub StoresPlan : State → Aim → ℕ → StoreFields → StoreFields → Restored → Type 0
StoresPlan s aim at store after restored = AreStored store (changes_for s aim at restored.plan) after

-- Restoring an object takes too much for this reason: one of the changes of the plan that is taken does, once those in front of it are stored.
pub record LacksRoom (s : State) (store : StoreFields) (aim : Aim) (at : ℕ) (refusal : Refusal) : Type 0 where
  pub plan : Plan
  pub planned : IsPlan (version_of s aim.object at) (present s aim.target) plan
  pub taken : IsTaken s store aim at plan
  pub lacks : OneTakesTooMuch refusal store (changes_for s aim at plan)
