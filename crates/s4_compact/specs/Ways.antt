-- The ways of compacting a drive, and what each comes to.
use Rattle.std.specs.Prelude.{◌≡◌, ◌⊎◌, ℕ, ◌+◌, ◌-◌, ◌^◌, min, Bool, true, false}
use Rattle.s4_types.specs.declared.refusals.Refusal.TheVariants.{NoRoom}
use Rattle.drive.specs.Fields.{DriveFields}
use Rattle.drive_compaction.specs.Compacting.{IsCompacted, LosesRoom}
use Rattle.drive_compaction.specs.declared.compacting.Compaction.{Compaction}
use Rattle.drive_compaction.specs.declared.turns.Work.{Work}
use Rattle.s4_compact.specs.declared.ways.Way.{Way}
use Rattle.s4_compact.specs.declared.ways.Way.TheVariants.{Cleaning, Moves, MovesFirst}

-- whether objects are cleaned
abbrev pub cleans_by : Way → Bool
cleans_by Cleaning = true
cleans_by Moves = false
cleans_by MovesFirst = true

-- the sum of two counts that stops at the greatest number of this many bits
abbrev pub sum_within : ℕ → ℕ → ℕ → ℕ
sum_within bits a b = min (a + b) (2 ^ bits - 1)

-- what two compactions did, one after the other
abbrev pub works_joined : Work → Work → Work
works_joined first second = record {
  rewritten = sum_within 64 first.rewritten second.rewritten;
  removed = sum_within 64 first.removed second.removed;
  is_cleaned = second.is_cleaned;
  frames = sum_within 64 first.frames second.frames;
  moves = sum_within 64 first.moves second.moves;
}

-- what they come to
abbrev pub joined : Compaction → Compaction → Compaction
joined first second = record {
  free_before = first.free_before;
  free_after = second.free_after;
  room_before = first.room_before;
  room_after = second.room_after;
  left_before = first.left_before;
  left_after = second.left_after;
  turns = sum_within 32 first.turns second.turns;
  work = works_joined first.work second.work;
  ending = second.ending;
}

-- A drive was compacted by moves alone, and then with the cleaner.
pub record CompactsTwice (d later : DriveFields) (report : Compaction) : Type 0 where
  pub middle : DriveFields
  pub first : Compaction
  pub moved : IsCompacted false d middle first
  pub second : Compaction
  pub cleaned : IsCompacted true middle later second
  pub report_is : report ≡ joined first second

-- A drive was compacted this way.
abbrev pub IsCompactedBy : Way → DriveFields → DriveFields → Compaction → Type 0
IsCompactedBy Cleaning d later report = IsCompacted true d later report
IsCompactedBy Moves d later report = IsCompacted false d later report
IsCompactedBy MovesFirst d later report = CompactsTwice d later report

-- A drive would have fewer blocks left than before, once it was compacted with the cleaner or without it.
pub record LosesBy (cleans : Bool) (d : DriveFields) : Type 0 where
  pub later : DriveFields
  pub loses : LosesRoom cleans d later NoRoom

-- It would so with the cleaner, once moves alone were made.
pub record LosesThen (d : DriveFields) : Type 0 where
  pub middle : DriveFields
  pub first : Compaction
  pub moved : IsCompacted false d middle first
  pub loses : LosesBy true middle

-- A step of this way leaves fewer blocks than there were before it.
abbrev pub Loses : Way → DriveFields → Type 0
Loses Cleaning d = LosesBy true d
Loses Moves d = LosesBy false d
Loses MovesFirst d = LosesBy false d ⊎ LosesThen d
