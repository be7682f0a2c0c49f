-- What the turns of a compaction come to.
use Rattle.std.specs.Prelude.{◌≡◌, ◌⊎◌, ℕ, zero, suc, ◌+◌, ◌≤◌, Bool, true, false, List, Option, Some, None, IsSome, is_some}
use Rattle.drive.specs.Fields.{DriveFields, store_of}
use Rattle.history_cleaner.specs.declared.passes.PassReport.{PassReport}
use Rattle.segment_copier.specs.Gathering.{free_count}
use Rattle.drive_compaction.specs.declared.turns.Ending.{Ending}
use Rattle.drive_compaction.specs.declared.turns.Ending.TheVariants.{Done, OutOfRoom, Limit}
use Rattle.drive_compaction.specs.declared.turns.TheConstants.{MOST_TURNS}
use Rattle.drive_compaction.specs.declared.turns.Turn.{Turn}
use Rattle.drive_compaction.specs.declared.turns.Work.{Work}
use Rattle.drive_compaction.specs.Choosing.{AreCounts, NoneCanBeFreed}
use Rattle.drive_compaction.specs.Cleaning.{Passes}
use Rattle.drive_compaction.specs.Emptying.{Sweeps}

-- ---- one turn

-- The cleaner passed over a drive, or with `cleans` false no object was cleaned, and then frame after frame was emptied and freed. How
-- many blocks the moves of a frame write was counted by the journals and checkpoints that the objects had before the first of them.
pub record IsTurn (cleans : Bool) (d : DriveFields) (turn : Turn) (later : DriveFields) : Type 0 where
  pub between : DriveFields
  pub passed : Passes cleans d turn.pass between
  pub since : DriveFields
  pub same : store_of since ≡ store_of between
  pub counts : List (ℕ × ℕ)
  pub counted : AreCounts (store_of since) counts
  pub swept : Sweeps counts since turn.swept.frames turn.swept.moves turn.swept.ran_out later

-- no frame of a drive can be freed at a gain
pub record IsBare (d : DriveFields) : Type 0 where
  pub counts : List (ℕ × ℕ)
  pub counted : AreCounts (store_of d) counts
  pub none : NoneCanBeFreed counts d

-- ---- what all turns did

abbrev pub rewritten_by : Option PassReport → ℕ
rewritten_by None = 0
rewritten_by (Some report) = report.rewritten

abbrev pub removed_by : Option PassReport → ℕ
removed_by None = 0
removed_by (Some report) = report.removed

abbrev pub no_work : Work
no_work = record { rewritten = 0; removed = 0; is_cleaned = false; frames = 0; moves = 0 }

-- what was done, with one turn more
abbrev pub with_turn : Work → Turn → Work
with_turn work turn = record {
  rewritten = work.rewritten + rewritten_by turn.pass;
  removed = work.removed + removed_by turn.pass;
  is_cleaned = is_some turn.pass;
  frames = work.frames + turn.swept.frames;
  moves = work.moves + turn.swept.moves;
}

-- this number of turns was taken, one after the other
unfoldable pub TakesTurns : Bool → DriveFields → ℕ → Work → DriveFields → Type 0
TakesTurns cleans d zero work later = (work ≡ no_work) × (later ≡ d)
TakesTurns cleans d (suc n) work later =
    (between : DriveFields) × (before : Work) × (turn : Turn) × TakesTurns cleans d n before between × IsTurn cleans between turn later × (work ≡ with_turn before turn)

-- ---- how they end

-- A whole turn freed nothing: no frame can be freed at a gain, and where the cleaner's pass was cut short no more frames are free than
-- before the turn.
pub record FreesNothing (before : ℕ) (turn : Turn) (later : DriveFields) : Type 0 where
  pub frames : turn.swept.frames ≡ 0
  pub room : turn.swept.ran_out ≡ false
  pub whole : IsSome turn.pass ⊎ (free_count later.store.table ≤ before)

-- how the turns end with one; `before` is how many frames were free before it
abbrev pub EndsWith : ℕ → Turn → Ending → DriveFields → Type 0
EndsWith before turn Done later = FreesNothing before turn later
EndsWith before turn OutOfRoom later = turn.swept.ran_out ≡ true
EndsWith before turn Limit later = ⊥

-- This number of turns was taken, and they ended with the last one.
pub record EndsAt (cleans : Bool) (d : DriveFields) (turns : ℕ) (work : Work) (ending : Ending) (later : DriveFields) : Type 0 where
  pub before : ℕ
  pub number : turns ≡ before + 1
  pub between : DriveFields
  pub earlier : Work
  pub taken : TakesTurns cleans d before earlier between
  pub turn : Turn
  pub last : IsTurn cleans between turn later
  pub sum : work ≡ with_turn earlier turn
  pub ends : EndsWith (free_count between.store.table) turn ending later

-- what all turns come to, by how they ended; where a whole one freed nothing, no frame can be freed at a gain
abbrev pub Runs : Bool → DriveFields → ℕ → Work → Ending → DriveFields → Type 0
Runs cleans d turns work Done later = EndsAt cleans d turns work Done later × IsBare later
Runs cleans d turns work OutOfRoom later = EndsAt cleans d turns work OutOfRoom later
Runs cleans d turns work Limit later = TakesTurns cleans d turns work later × (turns ≡ MOST_TURNS)
