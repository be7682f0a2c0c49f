-- What it comes to that what is left of an object is put in place, and what that rests on. No public clause cites this file.
use Rattle.std.specs.Prelude.{◌≡◌, ℕ, Result, OnOk, OnErr}
use Rattle.s4_types.specs.declared.refusals.Refusal.{Refusal}
use Rattle.s4_model.specs.Laws.{ThePresentClockIsVisible}
use Rattle.version_store.specs.Laws.{HeldIsWhatRowsName, InodesPointToWhatRowsName}
use Rattle.drive.specs.Fields.{DriveFields, store_of, state_in}
use Rattle.drive.specs.Keeping.{KeepsVersions}
use Rattle.history_cleaner.specs.Laws.{WhatIsLeftCanStand, AnEmptyJournalStaysEmpty, WhatIsLeftShowsTheSame, NothingIsLeftOfTheAbsent, WhatIsLeftIsSeen, WhatIsLeftIsSeenThroughout}
use Rattle.history_cleaner.specs.Reaching.{HoldsWhatIsReached, HeldIsWhatIsReached, WhatIsLeftTellsOfSeenPlaces, WhatIsLeftPointsToSeenPlaces, WhatIsLeftBeginsTheSame}
use Rattle.history_cleaner.specs.Cleaning.{CleansObject, OthersStay}

-- what is left of an object was put in place, by the drive before it, the answer and the drive after it
pub record PutsLeft (o : ℕ) (d : DriveFields) (result : Result (Unit {0}) Refusal) (later : DriveFields) : Type 0 where
  pub own : CleansObject o d result later
  pub held : OnOk result (HoldsWhatIsReached (store_of later) (state_in d) o)
  pub others : OthersStay (store_of d) o (store_of later)
  pub unchanged : OnErr result (store_of later ≡ store_of d)
  pub ledger : later.ledger ≡ d.ledger
  pub needed : KeepsVersions (state_in d) (store_of d) (store_of later)

-- the laws of what is left, of what is held and of what is reached
pub record PuttingLaws : Type 0 where
  pub stands : WhatIsLeftCanStand
  pub empty : AnEmptyJournalStaysEmpty
  pub same : WhatIsLeftShowsTheSame
  pub none : NothingIsLeftOfTheAbsent
  pub seen : WhatIsLeftIsSeen
  pub throughout : WhatIsLeftIsSeenThroughout
  pub tells : WhatIsLeftTellsOfSeenPlaces
  pub points : WhatIsLeftPointsToSeenPlaces
  pub begins : WhatIsLeftBeginsTheSame
  pub reached : HeldIsWhatIsReached
  pub exact : HeldIsWhatRowsName
  pub named : InodesPointToWhatRowsName
  pub present : ThePresentClockIsVisible
