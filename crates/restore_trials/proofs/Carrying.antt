-- How trials go on, object by object.
use Rattle.std.proofs.Common.{◌≡◌, true, List, [], ◌∷◌, ◌++◌, Some, inr, sym, refl, subst}
use Rattle.std.proofs.SliceLists.{all_by_recursion_push}
use Rattle.drive.specs.Fields.{DriveFields, state_in, store_of}
use Rattle.history_restore.specs.Asking.{is_of_room}
use Rattle.history_restore.specs.Restoring.{IsStopped, LacksRoom}
use Rattle.history_restore.specs.declared.aims.Aim.{Aim}
use Rattle.history_restore.specs.declared.failures.Failure.{Failure}
use Rattle.restore_search.specs.declared.surveys.Lack.{Lack}
use Rattle.restore_search.specs.declared.surveys.Lacking.{Lacking}
use Rattle.restore_orders.specs.declared.dating.Moments.{Moments}
use Rattle.restore_trials.specs.Trying.{AreTried, Carries, IsRefusedAfter, IsRefusedOver, IsTried, lack_of}

-- one object more was tried
pub tried_more : (d : DriveFields) (moments : Moments) (aims : List Aim) (aim : Aim) (middle later : DriveFields) → AreTried d moments aims middle → IsTried middle moments aim later → AreTried d moments (aims ++ aim ∷ []) later
tried_more d moments [] aim middle later tried here = (later, subst (λ (e : DriveFields). IsTried e moments aim later) tried here, refl)
tried_more d moments (first ∷ aims) aim middle later tried here = (tried.0, tried.1, tried_more tried.0 moments aims aim middle later tried.2 here)

-- nothing was tried
pub carries_none : (moments : Moments) (d : DriveFields) (lacking : List Lacking) → Carries moments d lacking d lacking
carries_none moments d lacking base earlier tried all = (all, earlier, tried)

-- one trial after the other
pub carries_on : (moments : Moments) (d middle later : DriveFields) (old between new : List Lacking) → Carries moments d old middle between → Carries moments middle between later new → Carries moments d old later new
carries_on moments d middle later old between new first second base earlier tried all =
    let here = first base earlier tried all in
    second base here.1 here.2 here.0

-- an object was tried, and nothing is said of it
pub carries_tried : (moments : Moments) (d later : DriveFields) (aim : Aim) (lacking : List Lacking) → IsTried d moments aim later → Carries moments d lacking later lacking
carries_tried moments d later aim lacking here base earlier tried all = (all, earlier ++ aim ∷ [], tried_more base moments earlier aim d later tried here)

-- an object was refused
carries_refused : (moments : Moments) (d later : DriveFields) (aim : Aim) (lacking : List Lacking) (one : Lacking) → IsTried d moments aim later → IsRefusedOver d moments one → Carries moments d lacking later (lacking ++ one ∷ [])
carries_refused moments d later aim lacking one here refused base earlier tried all = (
  all_by_recursion_push (IsRefusedAfter base moments) lacking one all (record { earlier = earlier; before = d; tried = tried; refused = refused }),
  earlier ++ aim ∷ [],
  tried_more base moments earlier aim d later tried here,
)

-- it was for its journal, or for a lack of blocks
abbrev lacking_at : Aim → Lack → Lacking
lacking_at aim lack = record { object = aim.target; lack = lack }

pub carries_lacking : (moments : Moments) (d later : DriveFields) (aim : Aim) (failure : Failure) (lack : Lack) (old new : List Lacking) → IsStopped (state_in d) (state_in later) aim moments.at failure
    → (is_of_room failure.refusal ≡ true → LacksRoom (state_in d) (store_of d) aim moments.at failure.refusal) → is_of_room failure.refusal ≡ true → lack_of failure.refusal ≡ Some lack
    → new ≡ old ++ lacking_at aim lack ∷ [] → Carries moments d old later new
carries_lacking moments d later aim failure lack old new stopped found of lacks pushed =
    subst (Carries moments d old later) (sym pushed) (carries_refused moments d later aim old (lacking_at aim lack) (inr (failure, stopped))
    (record { aim = aim; number = refl; later = later; failure = failure; stopped = stopped; lacks = lacks; found = found of }))
