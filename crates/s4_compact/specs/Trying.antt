-- What each way of compacting leaves, and which is made.
use Rattle.std.specs.Prelude.{◌≡◌, ℕ, ◌&&◌, if◌then◌else◌, Bool, true, false, List, Option, Some, None, nat_le, nat_lt}
use Rattle.drive.specs.Fields.{DriveFields, store_of}
use Rattle.drive_compaction.specs.Compacting.{blocks_left}
use Rattle.drive_compaction.specs.Passing.{PassesOver}
use Rattle.drive_compaction.specs.declared.compacting.Compaction.{Compaction}
use Rattle.drive_compaction.specs.declared.passing.FullPass.{FullPass}
use Rattle.drive_compaction.specs.declared.passing.FullPass.TheVariants.{Made, CostsRoom, Refused}
use Rattle.s4_command.specs.declared.whole.CompactAsked.{CompactAsked}
use Rattle.s4_images.specs.Commands.{OverImage, ChangesImage}
use Rattle.s4_compact.specs.Compacting.{CompactsBy}
use Rattle.s4_compact.specs.Ways.{IsCompactedBy, Loses}
use Rattle.s4_compact.specs.declared.trying.Found.{Found}
use Rattle.s4_compact.specs.declared.trying.Trial.{Trial}
use Rattle.s4_compact.specs.declared.ways.Way.{Way}
use Rattle.s4_compact.specs.declared.ways.Way.TheVariants.{Cleaning, Moves, MovesFirst}

-- How many blocks are left where a full pass over a drive ended so, those of the reserve among them: in the later drive where it is made,
-- else as many as before.
abbrev pub left_with : FullPass → DriveFields → DriveFields → ℕ
left_with Made d later = blocks_left (store_of later)
left_with CostsRoom d later = blocks_left (store_of d)
left_with Refused d later = blocks_left (store_of d)

-- A full pass over a drive was tried: it ends so, and so many blocks are left.
pub record TriesPass (d : DriveFields) (trial : Trial) : Type 0 where
  pub later : DriveFields
  pub passed : PassesOver trial.pass d later
  pub left : trial.left ≡ left_with trial.pass d later

-- A drive was compacted this way, and then a full pass over it was tried.
pub record TriesWay (way : Way) (d : DriveFields) (trial : Trial) : Type 0 where
  pub later : DriveFields
  pub report : Compaction
  pub is : IsCompactedBy way d later report
  pub tries : TriesPass later trial

-- what a trial of one way found, or none where a step of it leaves fewer blocks than there were before
abbrev pub Leaves : Way → DriveFields → Option Trial → Type 0
Leaves way d None = Loses way d
Leaves way d (Some trial) = TriesWay way d trial

-- what the trial of this way found
abbrev pub found_of : Found → Way → Option Trial
found_of found Cleaning = found.cleaned
found_of found Moves = found.moved
found_of found MovesFirst = found.moved_first

-- Each way was tried over the drive of an image.
abbrev pub AreTried : Option (List ℕ) → Found → Type 0
AreTried known found = (way : Way) → OverImage known (λ d. Leaves way d (found_of found way))

-- whether a trial found no more blocks than this, or fewer
abbrev pub is_no_more : Option Trial → ℕ → Bool
is_no_more None n = true
is_no_more (Some other) n = nat_le other.left n

abbrev pub is_less : Option Trial → ℕ → Bool
is_less None n = true
is_less (Some other) n = nat_lt other.left n

-- Whether no other way, by what was found, is better than this one, which leaves n blocks. Of ways that leave the same the earlier in
-- this order is made.
abbrev pub is_enough : Way → Found → ℕ → Bool
is_enough Cleaning found n = is_no_more found.moved n && is_no_more found.moved_first n
is_enough Moves found n = is_less found.cleaned n && is_no_more found.moved_first n
is_enough MovesFirst found n = is_less found.cleaned n && is_less found.moved n

-- whether this way serves best by what was found, where it found any
abbrev pub serves_by : Way → Found → Option Trial → Bool
serves_by way found None = false
serves_by way found (Some trial) = is_enough way found trial.left

-- the way that serves best; the one with the cleaner where each leaves fewer blocks than there were
abbrev pub best_way : Found → Way
best_way found = if serves_by Moves found found.moved then Moves else (if serves_by MovesFirst found found.moved_first then MovesFirst else Cleaning)

-- A drive was compacted one way, and no other is better by what trials found. The full pass after it ended as in the trial of this way: so
-- it wasn't made exactly where it was refused there, or cost room.
pub record CompactsBest (way : Way) (found : Found) (d later : DriveFields) (compact : CompactAsked) (output output' : Option (List ℕ)) : Type 0 where
  pub trial : Trial
  pub tried : found_of found way ≡ Some trial
  pub by : CompactsBy way trial.pass d later compact output output'
  pub enough : is_enough way found (blocks_left (store_of later)) ≡ true

-- The drive of an image was compacted one way, and no other, each of which was tried on the same image, leaves more blocks; nor as many, where
-- that one comes before it.
pub record CompactsImage (known known' : Option (List ℕ)) (compact : CompactAsked) (output output' : Option (List ℕ)) : Type 0 where
  pub way : Way
  pub found : Found
  pub tried : AreTried known found
  pub compacts : ChangesImage known known' (λ d later. CompactsBest way found d later compact output output')
