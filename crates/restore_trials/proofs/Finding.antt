-- What a trial finds of the drive that it is made over.
use Rattle.std.proofs.Common.{◌≡◌, ◌∙◌, ◌⊎◌, ℕ, Bool, true, false, List, [], Option, Some, inl, inr, refl, ap, subst}
use Rattle.std.specs.Prelude.{MatchBool}
use Rattle.std.specs.List.{AllByRecursion}
use Rattle.lemmas.proofs.List.{all_weaker}
use Rattle.s4_model.specs.State.{State}
use Rattle.drive.specs.Fields.{DriveFields, state_in, store_of}
use Rattle.history_restore.specs.Planning.{IsPlanned}
use Rattle.history_restore.specs.Presence.{HasNone, HasObject}
use Rattle.history_restore.specs.Widening.{Widens}
use Rattle.history_restore.specs.declared.planning.ObjectPlan.{ObjectPlan}
use Rattle.s4_images.specs.Moments.{moment_said}
use Rattle.restore_search.specs.declared.surveys.Lacking.{Lacking}
use Rattle.restore_search.specs.declared.surveys.Survey.{Survey}
use Rattle.restore_orders.specs.Dating.{LeavesObject, asked_at}
use Rattle.restore_orders.specs.Means.{IsCompactedBy, IsSameDrive}
use Rattle.restore_orders.specs.Reaching.{changes_ahead}
use Rattle.restore_orders.specs.declared.orders.Order.{Order}
use Rattle.restore_orders.specs.declared.dating.Moments.{Moments}
use Rattle.restore_trials.specs.Surveys.{AreMade, Finds, IsHiddenAlone, IsRefusedBy, IsRefusedFrom, moments_of}
use Rattle.restore_trials.specs.Trying.{Carries}

-- a window is widened for as many changes as are ahead
pub widens_ahead : (s later : State) (now at : ℕ) (widened : Option ℕ) (count ahead : ℕ) → count ≡ ahead → Widens s now at count widened later → Widens s now at ahead widened later
widens_ahead s later now at widened count ahead is widens = subst (λ (n : ℕ). Widens s now at n widened later) is widens

-- what was refused over a drive, once the moment is in reach and there is room in journals
pub refused_from : (d : DriveFields) (order : Order) (moments : Moments) (chosen : List ObjectPlan) (widened : Option ℕ) (wide ready later : DriveFields) (refused : List Lacking) → Widens (state_in d) moments.asked moments.at (changes_ahead chosen order.full.now) widened (state_in wide) → store_of wide ≡ store_of d
    → AreMade wide moments order.full.now ready → Carries moments ready [] later refused → AllByRecursion (IsRefusedFrom d order moments chosen) refused
refused_from d order moments chosen widened wide ready later refused widens store made carries =
    all_weaker _ _ refused (λ one here. record { widened = widened; wide = wide; widens = widens; store_stays = store; ready = ready; made = made; refused = here }) (carries ready [] refl tt).0

-- an object can't be restored by an order at some moments
abbrev IsLackingAt : DriveFields → Order → Moments → Lacking → Type 0
IsLackingAt d order moments one = IsHiddenAlone (state_in d) moments.at one ⊎ IsRefusedBy d order moments one

-- the moments of an order are passed on as others
pub same_moments : (s : State) (order : Order) (at now : ℕ) (moments : Moments) → moments ≡ record { at = at; asked = now } → at ≡ moment_said s order.at → now ≡ asked_at s order.time → moments ≡ moments_of s order
same_moments s order at now moments made said asked =
    made ∙ ap (λ (t : ℕ). record { at = t; asked = now }) said ∙ ap (λ (n : ℕ). record { at = moment_said s order.at; asked = n }) asked

-- what is lacking, of a drive in which room was made
pub finds_lacking : (d seen cleared : DriveFields) (order : Order) (moments : Moments) (chosen : List ObjectPlan) (survey : Survey) → moments ≡ moments_of (state_in d) order → IsSameDrive d seen → AllByRecursion (IsPlanned (state_in d) moments.at) chosen → IsCompactedBy order.means seen cleared
    → AllByRecursion (IsHiddenAlone (state_in d) moments.at) survey.hidden.items → AllByRecursion (IsRefusedFrom cleared order moments chosen) survey.refused.items → Finds d order (Some survey)
finds_lacking d seen cleared order moments chosen survey said same planned compacted hidden refused =
    subst (λ (m : Moments). AllByRecursion (IsLackingAt d order m) survey.hidden.items × AllByRecursion (IsLackingAt d order m) survey.refused.items) said (
      all_weaker _ _ survey.hidden.items (λ one here. inl here) hidden,
      all_weaker _ _ survey.refused.items (λ one here. inr (record { seen = seen; same = same; cleared = cleared; compacted = compacted; chosen = chosen; planned = planned; refused = here })) refused,
    )

-- where there was an object one is left, unless none has to be
pub leaves_one : (s begun later : State) (had to_nothing : Bool) → begun ≡ s → MatchBool had (HasObject begun) (HasNone begun) → (had ≡ true → to_nothing ≡ false → HasObject later) → to_nothing ≡ false → LeavesObject s later
leaves_one s begun later true to_nothing same before left unasked = inl (left refl unasked)
leaves_one s begun later false to_nothing same before left unasked = inr (subst HasNone same before)
