-- How many frames the new image has, and what each of them is.
use Rattle.std.specs.Prelude.{◌≡◌, ℕ, ◌+◌, ◌-◌, ◌*◌, ◌/◌, ◌<◌, ◌≤◌, max, drop, None, length}
use Rattle.s4_types.specs.declared.limits.TheConstants.{FEWEST_FRAMES, PAYLOAD_BLOCKS, RESERVE_FRAMES}
use Rattle.block_log.specs.Log.{Log}
use Rattle.segment_word.specs.Frames.{Free, Open, Sealed}
use Rattle.segment_word.specs.Layout.{frame_at}
use Rattle.segment_table.specs.Room.{log_of, new_places}
use Rattle.segment_table.specs.Table.{Table}

-- how many frames hold a block where this many blocks are put into frames one after the other
abbrev pub frames_filled : ℕ → ℕ
frames_filled blocks = (blocks + (PAYLOAD_BLOCKS - 1)) / PAYLOAD_BLOCKS

-- how many frames there are then: as many as before, at least as many as a drive has, and the reserve beside those that are filled
abbrev pub frames_needed : ℕ → ℕ → ℕ
frames_needed old blocks = max (max old FEWEST_FRAMES) (RESERVE_FRAMES + frames_filled blocks)

-- the log of a new table of this many frames
abbrev pub fresh_log : ℕ → Log
fresh_log frames = record { held = λ p. None; ahead = new_places frames; spent = 0; named = λ p. 0 }

-- What holds of a table that is filled from its first frame on: the places ahead are those of a new one, but for as many as
-- were taken. Each frame whose blocks are all taken is sealed, one of which some are is open, and all others are free; each is
-- in its first life.
pub record IsFilled (t : Table) : Type 0 where
  pub ahead : (log_of t).ahead ≡ drop (log_of t).spent (new_places (length t.seat.frames))
  pub within : (log_of t).spent ≤ PAYLOAD_BLOCKS * length t.seat.frames
  pub lives : (n : ℕ) → n < length t.seat.frames → (frame_at t.seat.frames n).generation ≡ 1
  pub full : (n : ℕ) → PAYLOAD_BLOCKS * (n + 1) ≤ (log_of t).spent → (frame_at t.seat.frames n).phase ≡ Sealed
  pub part : (n : ℕ) → PAYLOAD_BLOCKS * n < (log_of t).spent → (log_of t).spent < PAYLOAD_BLOCKS * (n + 1) → (frame_at t.seat.frames n).phase ≡ Open
  pub others : (n : ℕ) → (log_of t).spent ≤ PAYLOAD_BLOCKS * n → n < length t.seat.frames → (frame_at t.seat.frames n).phase ≡ Free

-- This many blocks are in a table of this many frames, which was filled from its first frame on.
pub record FillsFrames (blocks frames : ℕ) (t : Table) : Type 0 where
  pub count : length t.seat.frames ≡ frames
  pub spent : (log_of t).spent ≡ blocks
  pub filled : IsFilled t
