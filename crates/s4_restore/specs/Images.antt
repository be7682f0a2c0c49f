-- What `restore` does with the image in a file.
use Rattle.std.specs.Prelude.{◌≡◌, ◌⊎◌, ℕ, true, false, List, [], Option, MatchBool}
use Rattle.std.specs.Io.KnownBytes.{Keeps}
use Rattle.history_restore.specs.declared.aims.StandIn.{StandIn}
use Rattle.s4_command.specs.declared.restoring.RestoreAsked.{RestoreAsked}
use Rattle.drive.specs.Fields.{DriveFields}
use Rattle.verifier.specs.Saved.{SpellsSaved}
use Rattle.image_commands.specs.Files.{AreKnown}
use Rattle.s4_images.specs.Commands.{ChangesImage, IsToldDrive, OverImage}
use Rattle.s4_restore.specs.Maps.{IsMapIn}
use Rattle.restore_orders.specs.Orders.{WouldChange}
use Rattle.s4_restore.specs.Counting.{RestoresCounted, WouldRestoreCounted}
use Rattle.s4_restore.specs.Searching.{AreFewest, AreLeft, DoNotServe, HidesNothing, IsAskedBy, IsServed, means_tried}
use Rattle.restore_search.specs.declared.rooms.Room.{Room}
use Rattle.restore_orders.specs.declared.means.Means.{Means}
use Rattle.restore_orders.specs.declared.orders.Order.{Order}

-- What is needed to restore the drive in an image was found by trials: it serves, the means were taken after those that don't serve alone, moments are
-- hidden only where that is asked for and of no more versions than it takes, and objects are left out only where that is asked for and a trial
-- found them lacking.
pub record IsPrepared (known : Option (List ℕ)) (restore : RestoreAsked) (stand_ins : List StandIn) (means : Means) (full : List Room) (skipped : List ℕ) : Type 0 where
  pub served : IsServed known restore stand_ins means full skipped
  pub before : DoNotServe known restore stand_ins (means_tried means full skipped)
  pub fewest : AreFewest known restore stand_ins means full
  pub hidden : restore.flush ≡ false → HidesNothing full
  pub left : AreLeft known restore stand_ins means skipped
  pub all : restore.skip ≡ false → skipped ≡ []

-- The order has what is asked for, these stand-ins, and what was found so.
pub record IsOrderOf (known : Option (List ℕ)) (restore : RestoreAsked) (stand_ins : List StandIn) (order : Order) : Type 0 where
  pub asks : IsAskedBy restore stand_ins order
  pub prepared : IsPrepared known restore stand_ins order.means order.full.now order.skipped.now

-- Nothing of the drive in an image is to be changed, and what is known of it stays. The output ends with the lines of what is left as it is.
pub record LeavesImage (known known' : Option (List ℕ)) (order : Order) (output output' : Option (List ℕ)) : Type 0 where
  pub idle : OverImage known (λ d. WouldChange d order false)
  pub kept : Keeps known known'
  pub shows : OverImage known (λ d. WouldRestoreCounted d order output output')

-- Something is, and it is restored and saved.
pub record ReplacesImage (known known' : Option (List ℕ)) (order : Order) (output output' : Option (List ℕ)) : Type 0 where
  pub busy : OverImage known (λ d. WouldChange d order true)
  pub changes : ChangesImage known known' (λ d later. RestoresCounted d later order output output')

-- The image of a drive is left or replaced, by whether anything is to be changed.
abbrev pub PutsRestored : (known known' : Option (List ℕ)) → Order → (output output' : Option (List ℕ)) → Type 0
PutsRestored known known' order output output' = LeavesImage known known' order output output' ⊎ ReplacesImage known known' order output output'

-- The drive in an image is restored and saved, unless nothing of it is to be changed.
pub record RestoresImage (known known' : Option (List ℕ)) (restore : RestoreAsked) (stand_ins : List StandIn) (output output' : Option (List ℕ)) : Type 0 where
  pub order : Order
  pub asks : IsOrderOf known restore stand_ins order
  pub done : PutsRestored known known' order output output'

-- The output ends with the lines of that, and nothing is saved.
pub record WouldRestoreImage (known : Option (List ℕ)) (restore : RestoreAsked) (stand_ins : List StandIn) (output output' : Option (List ℕ)) : Type 0 where
  pub order : Order
  pub asks : IsOrderOf known restore stand_ins order
  pub shows : OverImage known (λ d. WouldRestoreCounted d order output output')

-- A restore is done, by the stand-ins that its map has: the drive is restored and saved, or where nothing is to be changed it is printed what
-- would be.
pub record PerformsRestore (files files' : List ℕ → Option (List ℕ)) (restore : RestoreAsked) (output output' : Option (List ℕ)) : Type 0 where
  pub stand_ins : List StandIn
  pub map : IsMapIn files restore.map stand_ins
  pub done : MatchBool restore.dry_run
      (WouldRestoreImage (files restore.image.now) restore stand_ins output output')
      (RestoresImage (files restore.image.now) (files' restore.image.now) restore stand_ins output output')

-- A restore prints these lines, by an order: where nothing is to be changed and the image stays, and else once what the drive in the image is then
-- is saved.
pub record PrintsSo (known known' : Option (List ℕ)) (restore : RestoreAsked) (stand_ins : List StandIn) (order : Order) (output output' : Option (List ℕ)) : Type 0 where
  pub drive : DriveFields
  pub told : IsToldDrive known drive
  pub later : DriveFields
  pub left : OverImage known (λ d. WouldChange d order false) → Keeps known known' → RestoresImage known known' restore stand_ins output output'
  pub replaced : OverImage known (λ d. WouldChange d order true) → (bytes : List ℕ) → SpellsSaved later bytes → AreKnown known' bytes → RestoresImage known known' restore stand_ins output output'

-- What a dry run prints is what a restore prints by the same order.
abbrev pub ADryRunPrintsARestore : Type 0
ADryRunPrintsARestore = (known known' : Option (List ℕ)) (restore : RestoreAsked) (stand_ins : List StandIn) (output output' : Option (List ℕ)) (would : WouldRestoreImage known restore stand_ins output output')
    → PrintsSo known known' restore stand_ins would.order output output'
