-- What the segment copier does to a drive that sessions share.
use Rattle.std.specs.Prelude.{◌≡◌, ◌⊎◌, ◌<◌, Bool, true, false, List, [], ◌∷◌, count_by, Option, None, Some, Result, Ok, Err}
use Rattle.s4_types.specs.History.{Base}
use Rattle.s4_types.specs.declared.limits.TheConstants.{MOVE_BLOCKS}
use Rattle.s4_types.specs.declared.refusals.Refusal.{Refusal}
use Rattle.s4_types.specs.declared.refusals.Refusal.TheVariants.{NoMemory}
use Rattle.s4_types.specs.declared.requests.Role.TheVariants.{Client}
use Rattle.segment_word.specs.AcceptViews.{caught_up}
use Rattle.segment_word.specs.AcceptRule.{FitsLedger}
use Rattle.version_store.specs.Costs.{room}
use Rattle.drive.specs.Fields.{DriveFields, SessionFields, store_of}
use Rattle.interleaving.specs.Moving.{Move, IsMoveOf}
use Rattle.interleaving.specs.Acting.{IsUnplanned, Commits}
use Rattle.segment_copier.specs.Commits.{CommitsMove}
use Rattle.segment_copier.specs.Moves.{PlannedMove}
use Rattle.segment_copier.specs.Choosing.{HasRoom, IsFirstFrame, IsLowestObject, NoneIsSparse}
use Rattle.segment_copier.specs.declared.candidates.Candidate.{Candidate}
use Rattle.server.specs.Sharing.{IsFresh}
use Rattle.server.specs.declared.moving.MoveStep.{MoveStep}
use Rattle.server.specs.declared.moving.MoveStep.TheVariants.{Idle, Unplanned, Unmoved, Moved}
use Rattle.server.specs.declared.moving.Moves.{Moves}

-- The copier's session met the drive as sessions had left it, one of this base: its history begins with all that the session had
-- seen before, and the session has seen all that was accepted in it. Nothing else about the session has changed.
pub record MeetsDrive (base : Base) (old : SessionFields) (drive : DriveFields) (new : SessionFields) : Type 0 where
  pub begins : drive.ledger.history.base ≡ base
  pub had_seen : FitsLedger drive.ledger old.told
  pub told : new ≡ record old { told = caught_up drive.ledger old.told }
  pub has_seen : FitsLedger drive.ledger new.told

-- a drive's candidate: there is room for any move, its frame is the first of those that a move can be made out of, and its object the
-- least that holds a block there
pub record IsCandidate (drive : DriveFields) (next : Candidate) : Type 0 where
  pub room : HasRoom drive
  pub frame : IsFirstFrame drive.store.table next.frame
  pub object : IsLowestObject drive.store.table next.frame next.object

-- a drive has no candidate: there is too little room, or no frame that a move can be made out of
abbrev pub HasNoCandidate : DriveFields → Type 0
HasNoCandidate drive = (room (store_of drive) < MOVE_BLOCKS) ⊎ NoneIsSparse drive.store.table

-- the drive had no candidate: nothing was to be moved
pub record FindsNone (base : Base) (old new : SessionFields) : Type 0 where
  pub drive : DriveFields
  pub met : MeetsDrive base old drive new
  pub none : HasNoCandidate drive

-- There was no memory to look for a candidate, or the move of the drive's candidate was not planned.
pub record FailsToPlan (base : Base) (old : SessionFields) (refusal : Refusal) (new : SessionFields) : Type 0 where
  pub drive : DriveFields
  pub met : MeetsDrive base old drive new
  pub why : (refusal ≡ NoMemory) ⊎ ((next : Candidate) × IsCandidate drive next × IsUnplanned drive next.object refusal)

-- the move of the drive's candidate was planned
pub record PlansNext (base : Base) (old : SessionFields) (next : Candidate) (move : Move) (new : SessionFields) : Type 0 where
  pub drive : DriveFields
  pub met : MeetsDrive base old drive new
  pub chosen : IsCandidate drive next
  pub planned : IsMoveOf drive next.frame next.object move

-- what the copier found to be moved, and planned
abbrev pub SharedPlan : Base → SessionFields → Result (Option (Candidate × PlannedMove)) Refusal → SessionFields → Type 0
SharedPlan base old (Err refusal) new = FailsToPlan base old refusal new
SharedPlan base old (Ok None) new = FindsNone base old new
SharedPlan base old (Ok (Some found)) new = PlansNext base old found.0 found.1.what new

-- A copied move was put in place, or refused, with the drive as sessions had left it since: its history is as it was, and every
-- version that can be read stays.
pub record SharedCommit (base : Base) (old : SessionFields) (move : Move) (done : Result (Unit {0}) Refusal) (new : SessionFields) : Type 0 where
  pub before : DriveFields
  pub after : DriveFields
  pub met : MeetsDrive base old before new
  pub puts : Commits CommitsMove move before done after

-- the move of the drive's candidate was planned, and then put in place on a later drive
pub record MovesNext (base : Base) (old : SessionFields) (next : Candidate) (new : SessionFields) : Type 0 where
  pub move : Move
  pub between : SessionFields
  pub plans : PlansNext base old next move between
  pub puts : SharedCommit base between move (Ok tt) new

-- why a planned move came to nothing: there was no memory for its copies, or it was refused on a later drive
abbrev pub IsGivenUp : Base → SessionFields → Move → Refusal → SessionFields → Type 0
IsGivenUp base old move refusal new = ((refusal ≡ NoMemory) × (new ≡ old)) ⊎ SharedCommit base old move (Err refusal) new

-- the move of the drive's candidate was planned, and nothing was moved
pub record GivesUpNext (base : Base) (old : SessionFields) (next : Candidate) (refusal : Refusal) (new : SessionFields) : Type 0 where
  pub move : Move
  pub between : SessionFields
  pub plans : PlansNext base old next move between
  pub given_up : IsGivenUp base between move refusal new

-- what a step of the copier comes to, by what it answers
abbrev pub SharedMove : Base → SessionFields → MoveStep → SessionFields → Type 0
SharedMove base old Idle new = FindsNone base old new
SharedMove base old (Unplanned refusal) new = FailsToPlan base old refusal new
SharedMove base old (Unmoved next refusal) new = GivesUpNext base old next refusal new
SharedMove base old (Moved next) new = MovesNext base old next new

-- whether a step planned a move
abbrev pub is_planned : MoveStep → Bool
is_planned Idle = false
is_planned (Unplanned refusal) = false
is_planned (Unmoved next refusal) = true
is_planned (Moved next) = true

-- whether a step put a move in place
abbrev pub is_moved : MoveStep → Bool
is_moved (Moved next) = true
is_moved _ = false

-- steps were taken one after another
abbrev pub TakesSteps : Base → SessionFields → List MoveStep → SessionFields → Type 0
TakesSteps base old [] new = new ≡ old
TakesSteps base old (step ∷ steps) new = (between : SessionFields) × SharedMove base old step between × TakesSteps base between steps new

-- What the copier did: it took steps with a session of its own, at least one, and counted the moves that it planned and those that
-- were put in place.
pub record IsMoving (base : Base) (moves : Moves) : Type 0 where
  pub first : SessionFields
  pub fresh : IsFresh base Client first
  pub steps : List MoveStep
  pub last : SessionFields
  pub taken : TakesSteps base first steps last
  pub some : steps ≡ [] → ⊥
  pub planned : moves.planned ≡ count_by is_planned steps
  pub moved : moves.moved ≡ count_by is_moved steps
