-- What is collected of a drive under its lock.
use Rattle.std.specs.Prelude.{◌≡◌, ◌≤◌, ◌<◌, ◌^◌, ℕ, List, length}
use mathlib.Core.List.{IsPrefix}
use Rattle.atomic_table.specs.Seated.{TableId}
use Rattle.s4_types.specs.History.{Base, History, Seen, accepted}
use Rattle.s4_types.specs.declared.changes.Accepted.{Accepted}
use Rattle.s4_model.specs.Numbers.{clock_of, window_of}
use Rattle.s4_model.specs.Sound.{IsSound}
use Rattle.s4_model.specs.State.{grown, state_of}
use Rattle.segment_table.specs.Rules.{HasFramesInOrder}
use Rattle.version_store.specs.Store.{IsStore}
use Rattle.drive.specs.Fields.{DriveFields, SessionFields, history_of, state_in, store_of}
use Rattle.drive.specs.Keeping.{DecodesWhereVisible}
use Rattle.drive.specs.Opened.{NoneFrom}
use Rattle.verifier.specs.Saved.{with_digest}
use Rattle.kept_drive.specs.Images.{IsImageOf}
use Rattle.kept_drive.specs.Reach.{reach_after}
use Rattle.kept_drive.specs.declared.collecting.Collected.{Collected}

-- A drive with these frames and this base, of which all holds that always does.
pub record IsDriveOf (frames : TableId) (base : Base) (drive : DriveFields) : Type 0 where
  pub decodes : DecodesWhereVisible (store_of drive) (state_in drive)
  pub begins : (history_of drive).base ≡ base
  pub frames_of : HasFramesInOrder frames drive.store.table
  pub sound : IsSound (state_in drive)
  pub store : IsStore (store_of drive)
  pub past : (store_of drive).latest ≤ (state_in drive).clock
  pub unborn : NoneFrom (state_in drive).next (store_of drive)

-- such a drive had this history
abbrev pub WasHad : TableId → Base → History → Type 0
WasHad frames base history = (drive : DriveFields) × IsDriveOf frames base drive × (history_of drive ≡ history)

-- This was collected of a drive with this history: how many changes were accepted, the reach that comes after the last one, and the image
-- of the drive once it has seen the reach, without its digest.
pub record IsCollectedOf (history : History) (last : ℕ) (collected : Collected) : Type 0 where
  pub number : collected.number ≡ length (accepted history)
  pub fits : clock_of history < 2 ^ 64
  pub ahead_of : collected.reach ≡ reach_after last (clock_of history) (window_of history)
  pub sound : IsSound (state_of history)
  pub image : IsImageOf (grown history (Seen collected.reach)) (with_digest collected.front.items)

-- It was collected of a drive that had such a history then, which has this base, and in which just these changes were accepted.
pub record IsCollected (has_had : History → Type 0) (base : Base) (seen : List Accepted) (last : ℕ) (collected : Collected) : Type 0 where
  pub history : History
  pub had : has_had history
  pub begins : history.base ≡ base
  pub met : accepted history ≡ seen
  pub is : IsCollectedOf history last collected

-- A session has seen what it had seen, and maybe more. Nothing else about it has changed.
pub record HasSeenMore (old new : SessionFields) : Type 0 where
  pub more : IsPrefix old.told.seen new.told.seen
  pub rest : new ≡ record old { told = record old.told { seen = new.told.seen } }
