-- How a moment is kept in reach until it is restored.
use Rattle.std.specs.Prelude.{◌≡◌, ℕ, ◌+◌, min, nat_lt, count_by, Bool, List, Option}
use Rattle.std.specs.Io.KnownBytes.{Appends}
use Rattle.s4_model.specs.State.{State}
use Rattle.s4_model.specs.Refusals.{last_number}
use Rattle.version_store.specs.Store.{StoreFields}
use Rattle.drive.specs.Fields.{DriveFields, state_in, store_of}
use Rattle.history_restore.specs.Planning.{aims_planned, changes_planned}
use Rattle.history_restore.specs.Widening.{Widens}
use Rattle.history_restore.specs.declared.planning.ObjectPlan.{ObjectPlan}
use Rattle.restore_orders.specs.Lines.{window_text}
use Rattle.restore_orders.specs.MakingRoom.{RestoresWithRoom}
use Rattle.restore_search.specs.declared.rooms.Room.{Room}
use Rattle.restore_orders.specs.declared.orders.Order.{Order}

-- whether versions of an object are hidden
abbrev pub does_hide : Room → Bool
does_hide room = nat_lt 0 room.count

-- How many changes are ahead: those of the plans, and one for each journal of which versions are hidden.
abbrev pub changes_ahead : List ObjectPlan → List Room → ℕ
changes_ahead chosen full = min last_number (min last_number (changes_planned chosen) + count_by does_hide full)

-- The window of a state was widened where a moment would expire by this many changes that are asked for at another, by as little as serves, and the output ends with the line of that.
pub record Reaches (s : State) (store : StoreFields) (now at count : ℕ) (json : Bool) (wide : DriveFields) (output output' : Option (List ℕ)) : Type 0 where
  pub widened : Option ℕ
  pub widens : Widens s now at count widened (state_in wide)
  pub store_stays : store_of wide ≡ store
  pub wrote : Appends output output' (window_text json s.window widened)

-- A moment was brought in reach, room was made in full journals, and what was chosen was restored, with the lines of that at the output's end.
pub record RestoresInReach (d later : DriveFields) (order : Order) (now at : ℕ) (chosen : List ObjectPlan) (output output' : Option (List ℕ)) : Type 0 where
  pub wide : DriveFields
  pub between : Option (List ℕ)
  pub reaches : Reaches (state_in d) (store_of d) now at (changes_ahead chosen order.full.now) order.json wide output between
  pub restores : RestoresWithRoom wide later now at order.json (aims_planned chosen) order.full.now between output'
