-- What an order restores.
use Rattle.std.specs.Prelude.{◌≡◌, ◌≢◌, ℕ, ◌<◌, filter, List, [], ◌∷◌, Option, None, Some, option_map}
use Rattle.std.specs.List.{AllByRecursion}
use Rattle.object_map.specs.Rows.{row_of}
use Rattle.s4_model.specs.State.{State}
use Rattle.version_store.specs.Store.{StoreFields}
use Rattle.history_restore.specs.Aims.{AreAims, AreAskedAims, is_not_skipped}
use Rattle.history_restore.specs.Planning.{PlansEach}
use Rattle.history_restore.specs.Whole.{is_chosen}
use Rattle.history_restore.specs.declared.aims.Aim.{Aim}
use Rattle.history_restore.specs.declared.aims.StandIn.{StandIn}
use Rattle.history_restore.specs.declared.planning.ObjectPlan.{ObjectPlan}
use Rattle.s4_images.specs.Moments.{IsObjectAsked}
use Rattle.restore_orders.specs.declared.orders.Order.{Order}

-- the numbers of stand-ins were given
abbrev pub AreGiven : State → List StandIn → Type 0
AreGiven s stand_ins = AllByRecursion (λ (l : StandIn). (0 < l.number) × (l.number < s.next)) stand_ins

-- the object that was found by its name, or else those of these numbers
abbrev pub objects_or : Option ℕ → List ℕ → List ℕ
objects_or None numbers = numbers
objects_or (Some o) numbers = o ∷ []

-- These are the objects that an order has: the one of the name at the moment, or else those of the numbers; none for all.
pub record AreAsked (s : State) (store : StoreFields) (order : Order) (at : ℕ) (objects : List ℕ) : Type 0 where
  pub found : Option ℕ
  pub named : IsObjectAsked s store None (option_map (λ text. text.now) order.name) at found
  pub objects_are : objects ≡ objects_or found order.objects.now

-- objects have rows
abbrev pub HaveRows : StoreFields → List ℕ → Type 0
HaveRows store objects = AllByRecursion (λ (o : ℕ). row_of store.rows o ≢ None) objects

-- These are the aims of the objects that are named, or of all that have a row where none is.
abbrev pub AreAimsOf : State → StoreFields → ℕ → List StandIn → List ℕ → List Aim → Type 0
AreAimsOf s store at stand_ins [] aims = AreAims s store at stand_ins aims
AreAimsOf s store at stand_ins (o ∷ objects) aims = AreAskedAims s store at stand_ins (o ∷ objects) aims

-- These are the aims of an order, of objects that have rows, by stand-ins that were made and without those that are skipped.
pub record AreAimedAt (s : State) (store : StoreFields) (order : Order) (at : ℕ) (aims : List Aim) : Type 0 where
  pub given : AreGiven s order.stand_ins.now
  pub asked : List ℕ
  pub objects : AreAsked s store order at asked
  pub rows : HaveRows store asked
  pub whole : List Aim
  pub all : AreAimsOf s store at order.stand_ins.now asked whole
  pub aims_are : aims ≡ filter (is_not_skipped order.skipped.now) whole

-- These are the plans of the objects that an order restores: newer ones are left out where they are kept.
pub record AreChosen (s : State) (store : StoreFields) (order : Order) (at : ℕ) (chosen : List ObjectPlan) : Type 0 where
  pub aims : List Aim
  pub aimed : AreAimedAt s store order at aims
  pub plans : List ObjectPlan
  pub planned : PlansEach s at aims plans
  pub chosen_are : chosen ≡ filter (is_chosen order.keep_newer) plans
