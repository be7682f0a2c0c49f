-- What trials to restore by an order find, of which nothing is kept.
use Rattle.std.specs.Prelude.{◌≡◌, ◌⊎◌, ⊤, ℕ, false, List, [], ◌∷◌, Option, None, Some}
use Rattle.std.specs.List.{AllByRecursion}
use Rattle.s4_types.specs.declared.spans.Span.{Span}
use Rattle.s4_model.specs.State.{State}
use Rattle.s4_model.specs.Visible.{IsVisible}
use Rattle.drive.specs.Fields.{DriveFields, state_in, store_of}
use Rattle.history_restore.specs.Planning.{IsPlanned}
use Rattle.history_restore.specs.Widening.{Widens}
use Rattle.history_restore.specs.declared.aims.Aim.{Aim}
use Rattle.history_restore.specs.declared.planning.ObjectPlan.{ObjectPlan}
use Rattle.s4_images.specs.Moments.{moment_said}
use Rattle.restore_orders.specs.Choosing.{AreChosen}
use Rattle.restore_orders.specs.Dating.{LeavesObject, asked_at}
use Rattle.restore_orders.specs.MakingRoom.{MakesRoom}
use Rattle.restore_orders.specs.Means.{HasNoMeans, IsCompactedBy, IsSameDrive}
use Rattle.restore_orders.specs.Reaching.{changes_ahead}
use Rattle.restore_search.specs.Searching.{IsFine}
use Rattle.restore_search.specs.declared.rooms.Room.{Room}
use Rattle.restore_orders.specs.declared.means.Means.{Means}
use Rattle.restore_orders.specs.declared.orders.Order.{Order}
use Rattle.restore_orders.specs.declared.dating.Moments.{Moments}
use Rattle.restore_search.specs.declared.surveys.Lack.TheVariants.{Version}
use Rattle.restore_search.specs.declared.surveys.Lacking.{Lacking}
use Rattle.restore_search.specs.declared.surveys.Survey.{Survey}
use Rattle.restore_trials.specs.Trying.{IsRefusedAfter, RestoresAll}

-- Room was made in these journals, one after the other.
abbrev pub AreMade : DriveFields → Moments → List Room → DriveFields → Type 0
AreMade d moments [] later = later ≡ d
AreMade d moments (room ∷ full) later = (hidden : Option Span) × (middle : DriveFields) × MakesRoom d moments.asked moments.at room hidden middle × AreMade middle moments full later

-- A moment of an object can't be read.
pub record IsHiddenAlone (s : State) (at : ℕ) (one : Lacking) : Type 0 where
  pub aim : Aim
  pub number : aim.target ≡ one.object
  pub lacks : one.lack ≡ Version
  pub hidden : IsVisible s aim.object at → ⊥

-- An object was refused over a drive in which room was made by an order's means: once the moment was brought in reach for the changes of
-- these plans, room was made in all journals that the order has, and others were tried.
pub record IsRefusedFrom (d : DriveFields) (order : Order) (moments : Moments) (chosen : List ObjectPlan) (one : Lacking) : Type 0 where
  pub widened : Option ℕ
  pub wide : DriveFields
  pub widens : Widens (state_in d) moments.asked moments.at (changes_ahead chosen order.full.now) widened (state_in wide)
  pub store_stays : store_of wide ≡ store_of d
  pub ready : DriveFields
  pub made : AreMade wide moments order.full.now ready
  pub refused : IsRefusedAfter ready moments one

-- A trial by an order refused an object, once room was made by the order's means.
pub record IsRefusedBy (d : DriveFields) (order : Order) (moments : Moments) (one : Lacking) : Type 0 where
  pub seen : DriveFields
  pub same : IsSameDrive d seen
  pub cleared : DriveFields
  pub compacted : IsCompactedBy order.means seen cleared
  pub chosen : List ObjectPlan
  pub planned : AllByRecursion (IsPlanned (state_in d) moments.at) chosen
  pub refused : IsRefusedFrom cleared order moments chosen one

-- the moment that an order restores of a drive, and the one at which it asks for changes
abbrev pub moments_of : State → Order → Moments
moments_of s order = record { at = moment_said s order.at; asked = asked_at s order.time }

-- An object can't be restored by an order, as a trial found: its moment is hidden, or it was refused.
abbrev pub IsLackingBy : DriveFields → Order → Lacking → Type 0
IsLackingBy d order one = IsHiddenAlone (state_in d) (moment_said (state_in d) order.at) one ⊎ IsRefusedBy d order (moments_of (state_in d) order) one

-- Some means leave less room than there was over a drive that has this one's state and objects.
pub record LacksMeans (means : Means) (d : DriveFields) : Type 0 where
  pub seen : DriveFields
  pub same : IsSameDrive d seen
  pub none : HasNoMeans means seen

-- What a trial by an order found: no room can be made by its means; or these are lacking.
abbrev pub Finds : DriveFields → Order → Option Survey → Type 0
Finds d order None = LacksMeans order.means d
Finds d order (Some survey) = AllByRecursion (IsLackingBy d order) survey.hidden.items × AllByRecursion (IsLackingBy d order) survey.refused.items

-- What these plans are of was restored over a drive in which room was made by an order's means: once the moment was brought in reach for their
-- changes, and room was made in all journals that the order has. Nothing else was done.
pub record IsServedFrom (d : DriveFields) (order : Order) (moments : Moments) (chosen : List ObjectPlan) (later : DriveFields) : Type 0 where
  pub widened : Option ℕ
  pub wide : DriveFields
  pub widens : Widens (state_in d) moments.asked moments.at (changes_ahead chosen order.full.now) widened (state_in wide)
  pub store_stays : store_of wide ≡ store_of d
  pub ready : DriveFields
  pub made : AreMade wide moments order.full.now ready
  pub restored : RestoresAll ready moments chosen later

-- An order serves at its moments: all that it chooses was restored in a trial, once room was made by its means. An object is left by that where
-- one was there, unless none has to be.
pub record IsServedAt (d : DriveFields) (order : Order) (moments : Moments) : Type 0 where
  pub seen : DriveFields
  pub same : IsSameDrive d seen
  pub cleared : DriveFields
  pub compacted : IsCompactedBy order.means seen cleared
  pub chosen : List ObjectPlan
  pub choice : AreChosen (state_in d) (store_of d) order moments.at chosen
  pub later : DriveFields
  pub serves : IsServedFrom cleared order moments chosen later
  pub left : order.to_nothing ≡ false → LeavesObject (state_in d) (state_in later)

-- So it is where a trial found nothing lacking.
abbrev pub Serves : DriveFields → Order → Option Survey → Type 0
Serves d order None = ⊤
Serves d order (Some survey) = IsFine survey → IsServedAt d order (moments_of (state_in d) order)
