-- Which places the next appends take, and how many were ever taken.
use Rattle.std.specs.Prelude.{ℕ, zero, suc, ◌+◌, ◌-◌, ◌*◌, ◌^◌, Bool, ◌&&◌, nat_lt, if◌then◌else◌, List, [], ◌∷◌, ◌++◌, length, filter}
use Rattle.std.specs.List.{flat_map, range_with_len}
use Rattle.s4_types.specs.Pointer.{Place}
use Rattle.block_log.specs.Log.{Log}
use Rattle.segment_word.specs.Frames.{Frame, is_free, is_open, is_sealed}
use Rattle.segment_word.specs.Layout.{frame_at}
use Rattle.segment_table.specs.Table.{Table, slots_at, held_at, named_at, is_of}

-- the frame takes appends at present
abbrev pub is_filling : Frame → Bool
is_filling k = is_open k.phase

-- the frame is free and not retired: one at the last generation, 2^32 - 1, is opened no more
abbrev pub can_open : Frame → Bool
can_open k = is_free k.phase && nat_lt (k.generation + 1) (2 ^ 32)

-- the numbers of the frames that pass a test, ascending, where the first frame of the list has number n
abbrev pub numbers : (Frame → Bool) → ℕ → List Frame → List ℕ
numbers test n [] = []
numbers test n (k ∷ ks) = if test k then n ∷ numbers test (n + 1) ks else numbers test (n + 1) ks

-- n blocks of frame f at generation g, from block b on
unfoldable pub places : ℕ → ℕ → ℕ → ℕ → List Place
places f g b zero = []
places f g b (suc n) = record { frame = f; block = b; generation = g } ∷ places f g (b + 1) n

-- the unused payload blocks of frame f
abbrev pub rest_of : Table → ℕ → List Place
rest_of t f = let used = length (slots_at t.slots f) in places f (frame_at t.seat.frames f).generation (used + 1) (15 - used)

-- all payload blocks of frame f
abbrev pub whole_of : Table → ℕ → List Place
whole_of t f = places f (frame_at t.seat.frames f).generation 1 15

-- The places that the next appends take, in order: the unused blocks of the open frame, then all of the free
-- frames that can be opened, by ascending number.
abbrev pub places_ahead : Table → List Place
places_ahead t = flat_map (rest_of t) (numbers is_filling 0 t.seat.frames) ++ flat_map (whole_of t) (numbers can_open 0 t.seat.frames)

-- How many places of frame f were ever taken: the used blocks of its present life, and all 15 of each earlier one. A life
-- that ended with unused blocks counts as if they had been used.
abbrev pub spent_at : Table → ℕ → ℕ
spent_at t f = 15 * ((frame_at t.seat.frames f).generation - 1) + length (slots_at t.slots f)

-- the sum of a number of each of n frames, from frame f on
abbrev pub sum_over : (ℕ → ℕ) → ℕ → ℕ → ℕ
sum_over number f zero = 0
sum_over number f (suc n) = number f + sum_over number (f + 1) n

-- how many places of all frames were ever taken
abbrev pub places_spent : Table → ℕ
places_spent t = sum_over (spent_at t) 0 (length t.seat.frames)

-- the table as a log
abbrev pub log_of : Table → Log
log_of t = record { held = held_at t; ahead = places_ahead t; spent = places_spent t; named = named_at t }

-- all places of a new drive, in order
abbrev pub new_places : ℕ → List Place
new_places n = flat_map (λ f. places f 1 1 15) (range_with_len 0 n)

-- the pointers to the held blocks of an object in frame f, by ascending block, where the frame is sealed
abbrev pub pointers_in : Table → ℕ → ℕ → List Place
pointers_in t o f = if is_sealed (frame_at t.seat.frames f).phase then filter (λ p. is_of o (held_at t p)) (whole_of t f) else []
