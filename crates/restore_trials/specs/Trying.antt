-- What trying objects of a drive finds, one after the other.
use Rattle.std.specs.Prelude.{◌≡◌, ◌⊎◌, ℕ, Bool, true, List, [], ◌∷◌, ◌++◌, Option, None, Some, IsPermutation}
use Rattle.std.specs.List.{AllByRecursion}
use Rattle.s4_types.specs.declared.refusals.Refusal.{Refusal}
use Rattle.s4_types.specs.declared.refusals.Refusal.TheVariants.{ChainFull, NoSpace}
use Rattle.drive.specs.Fields.{DriveFields, state_in, store_of}
use Rattle.history_restore.specs.Restoring.{IsStopped, LacksRoom}
use Rattle.history_restore.specs.Whole.{RestoresOver}
use Rattle.history_restore.specs.declared.aims.Aim.{Aim}
use Rattle.history_restore.specs.declared.failures.Failure.{Failure}
use Rattle.history_restore.specs.declared.planning.ObjectPlan.{ObjectPlan}
use Rattle.history_restore.specs.declared.restoring.Restored.{Restored}
use Rattle.restore_search.specs.declared.surveys.Lack.{Lack}
use Rattle.restore_search.specs.declared.surveys.Lack.TheVariants.{Journal, Blocks}
use Rattle.restore_search.specs.declared.surveys.Lacking.{Lacking}
use Rattle.restore_orders.specs.declared.dating.Moments.{Moments}

-- what is missing where a request is refused, if that is room in a journal or blocks
abbrev pub lack_of : Refusal → Option Lack
lack_of ChainFull = Some Journal
lack_of NoSpace = Some Blocks
lack_of _ = None

-- An object was restored over a drive, by changes that were asked for at a moment, and nothing else was done.
pub record IsRestoredOver (d : DriveFields) (moments : Moments) (aim : Aim) (later : DriveFields) : Type 0 where
  pub restored : Restored
  pub restores : RestoresOver (state_in d) (store_of d) moments.asked moments.at aim restored (state_in later) (store_of later)

-- An object was tried over a drive: it was restored, or refused.
abbrev pub IsTried : DriveFields → Moments → Aim → DriveFields → Type 0
IsTried d moments aim later =
    IsRestoredOver d moments aim later
    ⊎ ((failure : Failure) × IsStopped (state_in d) (state_in later) aim moments.at failure)

-- These were, one after the other.
abbrev pub AreTried : DriveFields → Moments → List Aim → DriveFields → Type 0
AreTried d moments [] later = later ≡ d
AreTried d moments (aim ∷ aims) later = (middle : DriveFields) × IsTried d moments aim middle × AreTried middle moments aims later

-- An object was refused over a drive, as something was lacking: for that one of the changes of the plan that is taken of it was refused.
pub record IsRefusedOver (d : DriveFields) (moments : Moments) (one : Lacking) : Type 0 where
  pub aim : Aim
  pub number : aim.target ≡ one.object
  pub later : DriveFields
  pub failure : Failure
  pub stopped : IsStopped (state_in d) (state_in later) aim moments.at failure
  pub lacks : lack_of failure.refusal ≡ Some one.lack
  pub found : LacksRoom (state_in d) (store_of d) aim moments.at failure.refusal

-- It was, once others were tried.
pub record IsRefusedAfter (d : DriveFields) (moments : Moments) (one : Lacking) : Type 0 where
  pub earlier : List Aim
  pub before : DriveFields
  pub tried : AreTried d moments earlier before
  pub refused : IsRefusedOver before moments one

-- What tries objects over a drive, and adds to those that were refused, goes on from what was tried before.
abbrev pub Carries : Moments → DriveFields → List Lacking → DriveFields → List Lacking → Type 0
Carries moments d old later new =
    (base : DriveFields) (earlier : List Aim) → AreTried base moments earlier d → AllByRecursion (IsRefusedAfter base moments) old
    → AllByRecursion (IsRefusedAfter base moments) new × (all : List Aim) × AreTried base moments all later

-- ---- where nothing is listed as lacking

-- What these plans are of was restored over a drive, one after the other, and nothing else was done.
abbrev pub AreRestoredOver : DriveFields → Moments → List ObjectPlan → DriveFields → Type 0
AreRestoredOver d moments [] later = later ≡ d
AreRestoredOver d moments (p ∷ plans) later = (middle : DriveFields) × IsRestoredOver d moments p.aim middle × AreRestoredOver middle moments plans later

-- It was in some order, each once.
pub record RestoresAll (d : DriveFields) (moments : Moments) (plans : List ObjectPlan) (later : DriveFields) : Type 0 where
  pub ordered : List ObjectPlan
  pub same : IsPermutation plans ordered
  pub restored : AreRestoredOver d moments ordered later

-- An object was tried, and nothing is listed: nothing was before, and where it is sure what it lacked it was restored.
pub record TriesFine (d : DriveFields) (moments : Moments) (aim : Aim) (old : List Lacking) (is_sure is_restored : Bool) (later : DriveFields) : Type 0 where
  pub before : old ≡ []
  pub restored : is_sure ≡ true → (is_restored ≡ true) × IsRestoredOver d moments aim later

-- An object was put off, and nothing was done; or it was restored.
abbrev pub IsPassed : DriveFields → Moments → ObjectPlan → List ObjectPlan → List ObjectPlan → DriveFields → Type 0
IsPassed d moments p put_off put_off' later = ((put_off' ≡ put_off ++ p ∷ []) × (later ≡ d)) ⊎ ((put_off' ≡ put_off) × IsRestoredOver d moments p.aim later)

-- It was, and nothing is listed: nothing was before, and as long as no blocks were wasted none are.
pub record PassesFine (d : DriveFields) (moments : Moments) (p : ObjectPlan) (old : List Lacking) (put_off put_off' : List ObjectPlan) (wasted wasted' : ℕ) (later : DriveFields) : Type 0 where
  pub before : old ≡ []
  pub wasted_none : wasted ≡ 0 → wasted' ≡ 0
  pub passed : wasted ≡ 0 → IsPassed d moments p put_off put_off' later
