-- What the cleaner does to a drive that sessions share.
use Rattle.std.specs.Prelude.{◌≡◌, ℕ, ◌<◌, Bool, true, false, List, [], ◌∷◌, Result, length, slice_index_or, All}
use Rattle.s4_types.specs.History.{Base}
use Rattle.s4_types.specs.declared.refusals.Refusal.{Refusal}
use Rattle.s4_model.specs.Audit.{audit_of}
use Rattle.version_store.specs.Upkeep.{KeepsObjects}
use Rattle.drive.specs.Fields.{DriveFields, state_in, store_of}
use Rattle.drive.specs.Keeping.{KeepsVersions}
use Rattle.history_cleaner.specs.Rounds.{Turns, Visits, IsSwept}
use Rattle.history_cleaner.specs.declared.rounds.Turn.{Turn}
use Rattle.history_cleaner.specs.declared.rounds.Turn.TheVariants.{Ended}
use Rattle.server.specs.declared.upkeep.Round.{Round}

-- A turn of the cleaner was taken with the drive as sessions had left it, one of this base: its history is as it was, and every
-- version that can be read stays.
pub record SharedTurn (base : Base) (passed : ℕ) (turn : Turn) (next : ℕ) : Type 0 where
  pub before : DriveFields
  pub after : DriveFields
  pub begins : before.ledger.history.base ≡ base
  pub turns : Turns before passed turn next after
  pub ledger : after.ledger ≡ before.ledger
  pub needed : KeepsVersions (state_in before) (store_of before) (store_of after)

-- An object had its turn, whichever it was, with the drive as sessions had left it, one of this base: its history is as it was, and
-- every version that can be read stays.
pub record SharedVisit (base : Base) (object : ℕ) : Type 0 where
  pub before : DriveFields
  pub done : Result (Unit {0}) Refusal
  pub after : DriveFields
  pub begins : before.ledger.history.base ≡ base
  pub visits : Visits before object done after
  pub ledger : after.ledger ≡ before.ledger
  pub needed : KeepsVersions (state_in before) (store_of before) (store_of after)

-- Frames were emptied of the drive as sessions had left it, one of this base: its history and all objects are as they were, and no
-- row of the audit is kept that is below the floor.
pub record SharedSweep (base : Base) : Type 0 where
  pub before : DriveFields
  pub after : DriveFields
  pub begins : before.ledger.history.base ≡ base
  pub swept : IsSwept before.store.table after.store.table
  pub objects : KeepsObjects (store_of before) (store_of after)
  pub ledger : after.ledger ≡ before.ledger
  pub audit : after.audit ≡ audit_of (state_in after)

-- whether a turn ended its round
abbrev pub ends_round : Turn → Bool
ends_round Ended = true
ends_round _ = false

-- Turns were taken one after another, from one object on up to another.
abbrev pub TakesTurns : Base → ℕ → List Turn → ℕ → Type 0
TakesTurns base passed [] next = next ≡ passed
TakesTurns base passed (turn ∷ turns) next = (m : ℕ) × SharedTurn base passed turn m × TakesTurns base m turns next

-- A whole round: turns from before the first object on, up to the one at which none was left, and to no earlier one.
pub record IsRound (base : Base) (round : Round) : Type 0 where
  pub turns : List Turn
  pub last : ℕ
  pub taken : TakesTurns base 0 turns last
  pub ended : SharedTurn base last Ended 0
  pub going : All (λ turn. ends_round turn ≡ false) turns
  pub counted : length turns ≡ round.turns

-- A round over these objects: each had its turn, frames were emptied, and it isn't the last.
pub record IsRoundOver (base : Base) (objects : List ℕ) (round : Round) : Type 0 where
  pub visited : (i : ℕ) (d : _) → i < length objects → SharedVisit base (slice_index_or objects i d)
  pub swept : SharedSweep base
  pub counted : round.turns ≡ length objects
  pub early : round.is_last ≡ false

-- a whole round that began when all sessions had ended
abbrev pub IsLastRound : Base → Round → Type 0
IsLastRound base round = IsRound base round × (round.is_last ≡ true)
