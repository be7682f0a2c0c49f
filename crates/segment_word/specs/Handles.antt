-- What contracts see of the drive's seat, of a pin and of a memory.
use Rattle.std.specs.Prelude.{◌≡◌, ℕ, ◌+◌, ◌*◌, ◌<◌, ◌≤◌, List, [], length, slice_set, replicate}
use mathlib.Core.Option.{some}
use lib.ListN.{get_elem?}
use Rattle.atomic_table.specs.Seated.{TableId}
use Rattle.atomic_table.specs.declared.shared.Seat.{Seat}
use Rattle.segment_word.specs.Frames.{Free, Frame, Pinned, Releases, View, nothing_known}
use Rattle.segment_word.specs.Layout.{word_of, frame_at}
use Rattle.segment_word.specs.Steps.{with_pins, released, one_more}

-- the drive's seat: its table, the frames that it knows, and the releases that it tried
pub record Drive : Type 0 where
  pub table : TableId
  pub frames : List Frame
  pub releases : Releases

-- a pin: its table, the frames that it counts on, the newest first, and the perch on which its seat rests once it is dropped
pub record Held : Type 0 where
  pub table : TableId
  pub pins : List Pinned
  pub perch : ℕ

-- a memory: its table, and the frames that a pin counted on when it was made, as they were
pub record Remembered : Type 0 where
  pub table : TableId
  pub remembered : List Pinned

-- a free frame at generation 1, whose words are zeros
abbrev pub fresh_frame : Frame
fresh_frame = record { phase = Free; generation = 1; contents = replicate 1024 0 }

-- the drive after a change of frame f alone
abbrev pub with_changed : Drive → ℕ → Frame → Drive
with_changed d f k = record d { frames = slice_set d.frames f k }

-- the drive after a release of frame f that won: the frame is free at the next generation, and the word that was found
-- counted no reader
abbrev pub with_released : Drive → ℕ → Drive
with_released d f = let k = frame_at d.frames f in record d { frames = slice_set d.frames f (released k); releases = one_more d.releases f (word_of k 0) }

-- The drive after a release of frame f that didn't win: the word that was found counted a reader. No frame has changed.
pub record HasMissed (f : ℕ) (old new : Drive) : Type 0 where
  pub readers : ℕ
  pub some_reader : 0 < readers
  pub found : new.releases.found ≡ word_of (frame_at old.frames f) readers
  pub else_same : new ≡ record old { releases = one_more old.releases f new.releases.found }

-- the pin of frame f, as the drive knows the frame
abbrev pub pin_of : List Frame → ℕ → Pinned
pin_of frames f = record { number = f; generation = (frame_at frames f).generation; contents = (frame_at frames f).contents }

-- this is one of the pins
abbrev pub IsAmong : Pinned → List Pinned → Type 0
IsAmong p pins = (i : ℕ) × (get_elem? pins i ≡ some p)

-- a table of at most as many words as MOST_FRAMES have, and of one at least
abbrev pub IsSized : TableId → Type 0
IsSized z = (0 < z.words) × (z.words ≤ 1049600)

-- each pinned frame has its place in the table
abbrev pub AllInside : TableId → List Pinned → Type 0
AllInside z pins = (i : ℕ) (p : Pinned) → get_elem? pins i ≡ some p → 1025 * p.number + 1024 < z.words

-- the seat of a pin knows the frames that it counts on, and nothing else
abbrev pub IsPinSeat : Seat (Unit {0}) View → Type 0
IsPinSeat s = s.me ≡ (with_pins nothing_known s.me.0.pins, [])

-- the drive's seat is the table's first, and has no pin lent to it
pub record IsDriveSeat (s : Seat (Unit {0}) View) : Type 0 where
  pub first : s.id ≡ 0
  pub bare : s.me.1 ≡ []
  pub unlent : s.me.0.pins ≡ []
  pub sized : s.table_id.words ≡ 1025 * length s.me.0.frames
  pub some_frame : 0 < length s.me.0.frames
  pub most : length s.me.0.frames ≤ 1024
