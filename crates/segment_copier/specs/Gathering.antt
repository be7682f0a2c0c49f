-- What gathering comes to.
use Rattle.std.specs.Prelude.{◌≡◌, ◌⊎◌, ℕ, ◌+◌, ◌*◌, ◌/◌, ◌<◌, ◌≤◌, ◌==◌, if◌then◌else◌, count_by, length, Option, None, Some, Result, Ok}
use Rattle.s4_types.specs.declared.limits.TheConstants.{JOURNAL_ENTRY_BYTES, MOVE_BLOCKS, PAYLOAD_BLOCKS}
use Rattle.s4_types.specs.declared.refusals.Refusal.{Refusal}
use Rattle.s4_types.specs.declared.refusals.Refusal.TheVariants.{NoObject, NoMemory, NoRoom, Busy}
use Rattle.object_map.specs.declared.map.Row.{Row}
use Rattle.object_map.specs.Rows.{row_of}
use Rattle.row_changes.specs.Moving.{kept_blocks, inode_kept}
use Rattle.segment_word.specs.Frames.{is_free}
use Rattle.segment_table.specs.Table.{Table, held_at}
use Rattle.version_store.specs.Costs.{room}
use Rattle.drive.specs.Fields.{DriveFields, store_of}
use Rattle.interleaving.specs.Moving.{Move, IsMoveOf}
use Rattle.interleaving.specs.Acting.{Commits}
use Rattle.segment_copier.specs.Choosing.{IsFirstFrame, IsLowestObject, NoneIsSparse}
use Rattle.segment_copier.specs.Commits.{CommitsMove, blocks_moved}
use Rattle.segment_copier.specs.Counting.{blocks_to_empty}
use Rattle.segment_copier.specs.declared.candidates.Candidate.{Candidate}

-- how many frames are free, retired ones among them
abbrev pub free_count : Table → ℕ
free_count t = count_by (λ k. is_free k.phase) t.seat.frames

-- ---- what emptying a frame may take

-- how many blocks a journal has at most, by the bytes of its entries and of those in its newest block: any two neighbours have
-- more than one block holds
abbrev pub most_journal : ℕ → ℕ → ℕ
most_journal bytes in_newest = if bytes == 0 then 0 else (if bytes == in_newest then 1 else bytes / JOURNAL_ENTRY_BYTES * 2 + 1)

-- how many blocks the journal of an object of this row has at most, with those that its checkpoint has, if there is one
abbrev pub most_of_row : Table → ℕ → Option Row → ℕ
most_of_row t o None = 0
most_of_row t o (Some row) = most_journal row.journal_bytes row.head_bytes + kept_blocks (inode_kept (held_at t) o row)

abbrev pub most_rewritten : DriveFields → ℕ → ℕ
most_rewritten d o = most_of_row d.store.table o (row_of d.store.rows o)

-- how many blocks it takes at most to empty a frame
abbrev pub most_to_empty : DriveFields → ℕ → ℕ
most_to_empty d f = blocks_to_empty (most_rewritten d) d.store.table f

-- ---- a step

-- the move of an object out of a frame was planned and put in place on one drive
pub record MovesNow (d : DriveFields) (f o : ℕ) (done : Result (Unit {0}) Refusal) (later : DriveFields) : Type 0 where
  pub move : Move
  pub planned : IsMoveOf d f o move
  pub puts : Commits CommitsMove move d done later

-- fewer places are ahead than the move of an object out of a frame takes
pub record LacksRoom (d : DriveFields) (f o : ℕ) : Type 0 where
  pub row : Row
  pub there : row_of d.store.rows o ≡ Some row
  pub short : length (store_of d).log.ahead < blocks_moved d f o row

-- Why a whole move of an object that has a row isn't made: NoRoom where fewer places are ahead than it takes, else lack of memory or of a
-- pin.
abbrev pub IsKeptBack : DriveFields → ℕ → ℕ → Refusal → Type 0
IsKeptBack d f o e = ((e ≡ NoRoom) × LacksRoom d f o) ⊎ ((e ≡ NoMemory) ⊎ (e ≡ Busy))

-- the same of any object: NoObject exactly where it has no row
abbrev pub IsUnmade : DriveFields → ℕ → ℕ → Refusal → Type 0
IsUnmade d f o e = ((e ≡ NoObject) × (row_of d.store.rows o ≡ None)) ⊎ IsKeptBack d f o e

-- There was too little room for a move of the copier, and a frame was free. Of the frame that the copier would choose, which may be
-- emptied by fewer blocks than it has, the least object that holds a block there was moved all the same.
pub record IsGathered (d : DriveFields) (c : Candidate) (later : DriveFields) : Type 0 where
  pub short : room (store_of d) < MOVE_BLOCKS
  pub frame : IsFirstFrame d.store.table c.frame
  pub object : IsLowestObject d.store.table c.frame c.object
  pub free : 0 < free_count d.store.table
  pub few : most_to_empty d c.frame < PAYLOAD_BLOCKS
  pub moved : MovesNow d c.frame c.object (Ok tt) later

-- emptying the frame that the copier would choose may take as many blocks as it has
pub record TakesMany (d : DriveFields) : Type 0 where
  pub frame : ℕ
  pub first : IsFirstFrame d.store.table frame
  pub many : PAYLOAD_BLOCKS ≤ most_to_empty d frame

-- Why nothing is gathered: there is room for the copier's moves, no frame is sparse, none is free, or emptying the one that the copier
-- would choose may take too many blocks.
abbrev pub GathersNothing : DriveFields → Type 0
GathersNothing d = (MOVE_BLOCKS ≤ room (store_of d)) ⊎ (NoneIsSparse d.store.table ⊎ ((free_count d.store.table ≡ 0) ⊎ TakesMany d))

-- Of the frame that the copier would choose, which may be emptied by fewer blocks than it has, the least object that holds a block there
-- stays for now: Busy for lack of a pin, NoRoom where fewer places are ahead than its move takes.
pub record KeepsBack (d : DriveFields) (e : Refusal) : Type 0 where
  pub next : Candidate
  pub frame : IsFirstFrame d.store.table next.frame
  pub object : IsLowestObject d.store.table next.frame next.object
  pub free : 0 < free_count d.store.table
  pub few : most_to_empty d next.frame < PAYLOAD_BLOCKS
  pub why : (e ≡ Busy) ⊎ ((e ≡ NoRoom) × LacksRoom d next.frame next.object)

-- Why gathering is refused, which comes only where there is too little room for a move of the copier: memory is refused, for the choice
-- or for the move; or the move that would be made is kept back.
pub record FailsToGather (d : DriveFields) (e : Refusal) : Type 0 where
  pub short : room (store_of d) < MOVE_BLOCKS
  pub why : (e ≡ NoMemory) ⊎ KeepsBack d e
