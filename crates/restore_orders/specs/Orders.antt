-- What restoring a drive by an order does.
use Rattle.std.specs.Prelude.{◌≡◌, ℕ, nat_lt, Bool, false, List, Option}
use Rattle.std.specs.List.{flat_map}
use Rattle.std.specs.Io.KnownBytes.{Appends}
use Rattle.s4_model.specs.Visible.{IsVisible}
use Rattle.drive.specs.Fields.{DriveFields, state_in, store_of}
use Rattle.history_restore.specs.declared.planning.ObjectPlan.{ObjectPlan}
use Rattle.s4_images.specs.Moments.{moment_said}
use Rattle.restore_orders.specs.Choosing.{AreChosen}
use Rattle.service_time.specs.Starts.{IsTooFar}
use Rattle.restore_orders.specs.Dating.{LeavesObject, asked_at}
use Rattle.restore_orders.specs.Lines.{skipped_text}
use Rattle.restore_orders.specs.Means.{IsCompactedBy, IsSameDrive}
use Rattle.restore_orders.specs.Reaching.{RestoresInReach, changes_ahead}
use Rattle.restore_orders.specs.declared.orders.Order.{Order}

-- A drive was restored by an order, by changes that were asked for at a moment, with the lines of that and of what is left as it is at the output's
-- end. The moment can be read of what has no hidden moments of its own, and what is restored is chosen of the drive as it was before room was made.
pub record RestoresAt (d later : DriveFields) (order : Order) (now : ℕ) (output output' : Option (List ℕ)) : Type 0 where
  pub readable : IsVisible (state_in d) 0 (moment_said (state_in d) order.at)
  pub chosen : List ObjectPlan
  pub choice : AreChosen (state_in d) (store_of d) order (moment_said (state_in d) order.at) chosen
  pub seen : DriveFields
  pub same : IsSameDrive d seen
  pub cleared : DriveFields
  pub compacted : IsCompactedBy order.means seen cleared
  pub between : Option (List ℕ)
  pub restores : RestoresInReach cleared later order now (moment_said (state_in d) order.at) chosen output between
  pub skips : Appends between output' (flat_map (skipped_text order.json) order.skipped.now)

-- So it was at the machine's time, where moments are times, and that isn't too far above the clock. An object is left where one was there, unless
-- none has to be.
pub record RestoresBy (d later : DriveFields) (order : Order) (output output' : Option (List ℕ)) : Type 0 where
  pub near : IsTooFar (state_in d).clock (state_in d).window order.time order.leap → ⊥
  pub restores : RestoresAt d later order (asked_at (state_in d) order.time) output output'
  pub left : order.to_nothing ≡ false → LeavesObject (state_in d) (state_in later)

-- The output has the lines of that, over a drive that isn't saved.
pub record WouldRestoreBy (d : DriveFields) (order : Order) (output output' : Option (List ℕ)) : Type 0 where
  pub later : DriveFields
  pub restores : RestoresBy d later order output output'

-- Whether an order has anything to change of a drive, by what it chooses.
pub record WouldChange (d : DriveFields) (order : Order) (changes : Bool) : Type 0 where
  pub chosen : List ObjectPlan
  pub choice : AreChosen (state_in d) (store_of d) order (moment_said (state_in d) order.at) chosen
  pub some : changes ≡ nat_lt 0 (changes_ahead chosen order.full.now)
