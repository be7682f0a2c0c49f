-- What the emptying of a drive's frames leaves.
use Rattle.std.specs.Prelude.{◌≡◌, ◌≢◌, ◌⊎◌, ℕ, zero, suc, ◌<◌, Bool, List, length, count_by, nat_lt}
use Rattle.std.specs.List.{range_with_len}
use Rattle.segment_word.specs.Frames.{Free, Open, Draining, Frame}
use Rattle.segment_word.specs.Layout.{frame_at, word_of}
use Rattle.segment_word.specs.Handles.{Drive, HasMissed, with_released}
use Rattle.segment_table.specs.Table.{Table}
use Rattle.segment_table.specs.Changes.{NoneHeld, CanBeEmptied}

-- frame f is open or free, unless one of its blocks is held
abbrev pub IsVacated : ℕ → Table → Type 0
IsVacated f t = NoneHeld f t → ((frame_at t.seat.frames f).phase ≡ Open) ⊎ ((frame_at t.seat.frames f).phase ≡ Free)

-- each frame of a table is
abbrev pub AllVacated : Table → Type 0
AllVacated t = (f : ℕ) → f < length t.seat.frames → IsVacated f t

-- whether a frame has a greater generation than before
abbrev pub has_risen : List Frame → List Frame → ℕ → Bool
has_risen old new f = nat_lt (frame_at old f).generation (frame_at new f).generation

-- how many of a drive's frames have
abbrev pub frames_risen : Drive → Drive → ℕ
frames_risen old new = count_by (has_risen old.frames new.frames) (range_with_len 0 (length old.frames))

-- The last release was tried since, and found a reader: it was of a frame that is being emptied still, and the word that it
-- found counted one.
pub record HasFoundReader (old new : Drive) : Type 0 where
  pub since : old.releases.tried < new.releases.tried
  pub draining : (frame_at new.frames new.releases.last).phase ≡ Draining
  pub readers : ℕ
  pub some_reader : 0 < readers
  pub found : new.releases.found ≡ word_of (frame_at new.frames new.releases.last) readers

-- Each frame below f that could begin to be emptied is being emptied from now on, and none of them can begin any more. All other
-- frames are as they were, and so is all that is used; there are as many frames as there were, each at the generation that it had, and
-- no release was tried.
pub record MarkedBelow (f : ℕ) (old new : Table) : Type 0 where
  pub count : length new.seat.frames ≡ length old.seat.frames
  pub generations : (k : ℕ) → (frame_at new.seat.frames k).generation ≡ (frame_at old.seat.frames k).generation
  pub begun : (k : ℕ) → k < f → CanBeEmptied k old → frame_at new.seat.frames k ≡ record (frame_at old.seat.frames k) { phase = Draining }
  pub others : (k : ℕ) → (k < f → CanBeEmptied k old → ⊥) → frame_at new.seat.frames k ≡ frame_at old.seat.frames k
  pub marked : (k : ℕ) → k < f → CanBeEmptied k new → ⊥
  pub slots : new.slots ≡ old.slots
  pub table : new.seat.table ≡ old.seat.table
  pub releases : new.seat.releases ≡ old.seat.releases

-- Frame f was released if it was being emptied: it is free at its next generation. Else nothing has changed.
pub record FreesFrame (f : ℕ) (old new : Drive) : Type 0 where
  pub freed : (frame_at old.frames f).phase ≡ Draining → new ≡ with_released old f
  pub idle : (frame_at old.frames f).phase ≢ Draining → new ≡ old

-- Frame f was being emptied, and the one release of it that was tried found a reader.
pub record MeetsReader (f : ℕ) (old new : Drive) : Type 0 where
  pub draining : (frame_at old.frames f).phase ≡ Draining
  pub missed : HasMissed f old new

-- Of the frames below some number each that was being emptied was released, one after the other from the highest on and each once, down
-- to the first that had a reader: there it ended.
abbrev pub EndsAtReader : ℕ → Drive → Drive → Type 0
EndsAtReader zero old new = ⊥
EndsAtReader (suc f) old new = MeetsReader f old new ⊎ ((between : Drive) × FreesFrame f old between × EndsAtReader f between new)

-- All frames of a table were marked that could be, and then each that was being emptied was released, down to the first that had a
-- reader. So a release was tried since, and found one.
pub record StopsAtReader (old new : Table) : Type 0 where
  pub between : Table
  pub marked : MarkedBelow (length old.seat.frames) old between
  pub ended : EndsAtReader (length old.seat.frames) between.seat new.seat
  pub reader : HasFoundReader old.seat new.seat
