-- By which means room is made in a drive before objects are restored.
use Rattle.std.specs.Prelude.{◌≡◌, Bool, true, false}
use Rattle.s4_types.specs.declared.refusals.Refusal.TheVariants.{NoRoom}
use Rattle.drive.specs.Fields.{DriveFields, state_in, store_of}
use Rattle.drive.specs.Keeping.{KeepsVersions}
use Rattle.drive_compaction.specs.Compacting.{IsCompacted, LosesRoom}
use Rattle.drive_compaction.specs.declared.compacting.Compaction.{Compaction}
use Rattle.restore_orders.specs.declared.means.Means.{Means}
use Rattle.restore_orders.specs.declared.means.Means.TheVariants.{Nothing, Cleaning, Moves}

-- A drive has the state and the objects that another has.
pub record IsSameDrive (d seen : DriveFields) : Type 0 where
  pub state : state_in seen ≡ state_in d
  pub store : store_of seen ≡ store_of d

-- A drive was compacted, with or without the cleaner: its history stays, and each version that is needed.
pub record WasCompacted (cleans : Bool) (d later : DriveFields) : Type 0 where
  pub report : Compaction
  pub compacted : IsCompacted cleans d later report
  pub ledger : later.ledger ≡ d.ledger
  pub needed : KeepsVersions (state_in d) (store_of d) (store_of later)

-- Room was made in a drive by some means.
abbrev pub IsCompactedBy : Means → DriveFields → DriveFields → Type 0
IsCompactedBy Nothing d later = later ≡ d
IsCompactedBy Cleaning d later = WasCompacted true d later
IsCompactedBy Moves d later = WasCompacted false d later

-- What a compaction did, with or without the cleaner, left less room than there was; its history stays all the same, and each version that is
-- needed.
pub record LeavesLess (cleans : Bool) (d : DriveFields) : Type 0 where
  pub later : DriveFields
  pub loses : LosesRoom cleans d later NoRoom
  pub ledger : later.ledger ≡ d.ledger
  pub needed : KeepsVersions (state_in d) (store_of d) (store_of later)

-- The means left less room than there was.
abbrev pub HasNoMeans : Means → DriveFields → Type 0
HasNoMeans Nothing d = ⊥
HasNoMeans Cleaning d = LeavesLess true d
HasNoMeans Moves d = LeavesLess false d
