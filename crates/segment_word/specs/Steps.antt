-- What each step on a word tells the seat that makes it.
use Rattle.std.specs.Prelude.{◌≡◌, ◌≢◌, ℕ, ◌+◌, ◌*◌, ◌^◌, ◌<◌, ◌≤◌, List, [], ◌∷◌, ◌++◌, length, slice_index, slice_set}
use mathlib.Core.Option.{some}
use lib.ListN.{get_elem?}
use Rattle.atomic_table.specs.Table.{Me, Step}
use Rattle.atomic_table.specs.declared.shared.Seat.{Seat}
use Rattle.segment_word.specs.Frames.{Phase, Free, Open, Sealed, Draining, Frame, Pinned, Releases, View, code_of, nothing_known}
use Rattle.segment_word.specs.Layout.{word_of, frame_at}
use Rattle.segment_word.specs.FrameRule.{AllAgree, AllRemembered}

abbrev pub Sat : Type 0
Sat = Me (Unit {0}) View

-- the phase that follows: free, open, sealed, being emptied
abbrev pub next_phase : Phase → Phase
next_phase Free = Open
next_phase Open = Sealed
next_phase Sealed = Draining
next_phase Draining = Draining

-- the frame in its next phase
abbrev pub raised : Frame → Frame
raised k = record k { phase = next_phase k.phase }

-- the frame with another word in its blocks
abbrev pub with_word : Frame → ℕ → ℕ → Frame
with_word k j x = record k { contents = slice_set k.contents j x }

-- the view with another frame f
abbrev pub with_frame : View → ℕ → Frame → View
with_frame v f k = record v { frames = slice_set v.frames f k }

-- the view with other pins
abbrev pub with_pins : View → List Pinned → View
with_pins v pins = record v { pins = pins }

-- the pins but the newest
abbrev pub older : List Pinned → List Pinned
older [] = []
older (p ∷ ps) = ps

-- open, seal or mark: the frame whose state word this is is in its next phase
abbrev pub Raises : Step (Unit {0}) → Sat → ℕ → Sat → Type 0
Raises st me n me' = (f : ℕ) → f < length me.0.frames → st.word ≡ 1025 * f → me' ≡ (with_frame me.0 f (raised (frame_at me.0.frames f)), me.1)

-- store: the frame to which this block word belongs has it, and has its 1,024 words
abbrev pub Stores : Step (Unit {0}) → Sat → ℕ → Sat → Type 0
Stores st me n me' = (f j : ℕ) → f < length me.0.frames → j < 1024 → st.word ≡ 1025 * f + 1 + j → (me' ≡ (with_frame me.0 f (with_word (frame_at me.0.frames f) j st.first), me.1)) × (length (frame_at me.0.frames f).contents ≡ 1024)

-- n is a state word of the frame, which counts these readers: none while the frame is open or free. Generations go
-- from 1 to 2^32 - 1, and a frame of the last one is free.
pub record IsStateOf (k : Frame) (n : ℕ) : Type 0 where
  pub readers : ℕ
  pub word : n ≡ word_of k readers
  pub few : readers ≤ 1048576
  pub unread : code_of k.phase < 2 → readers ≡ 0
  pub started : 0 < k.generation
  pub numbered : k.generation < 2 ^ 32
  pub goes_on : 0 < code_of k.phase → k.generation + 1 < 2 ^ 32

-- the frame in its next life: free at the next generation, and its words are left as they are
abbrev pub released : Frame → Frame
released k = record k { phase = Free; generation = k.generation + 1 }

-- the releases, with one more: it was of frame f, and found the word n
abbrev pub one_more : Releases → ℕ → ℕ → Releases
one_more r f n = record { tried = r.tried + 1; last = f; found = n }

-- the view after a release of frame f that found the word n
abbrev pub with_try : View → ℕ → ℕ → View
with_try v f n = record v { releases = one_more v.releases f n }

-- release: the word that was found is one of the frame, and noted. Where it was the expected one, the frame is in its
-- next life.
abbrev pub Frees : Step (Unit {0}) → Sat → ℕ → Sat → Type 0
Frees st me n me' = (f : ℕ) → f < length me.0.frames → st.word ≡ 1025 * f
    → IsStateOf (frame_at me.0.frames f) n
    × (n ≡ st.first → me' ≡ (with_try (with_frame me.0 f (released (frame_at me.0.frames f))) f n, me.1))
    × (n ≢ st.first → me' ≡ (with_try me.0 f n, me.1))

-- load by the drive's seat: the word says what is known of its frame, the pins that are lent tell the truth, and so does
-- all that it was told of memories
pub record Looks (st : Step (Unit {0})) (me : Sat) (n : ℕ) (me' : Sat) : Type 0 where
  pub same : me' ≡ me
  pub state : (f : ℕ) → f < length me.0.frames → st.word ≡ 1025 * f → IsStateOf (frame_at me.0.frames f) n
  pub block : (f j : ℕ) → f < length me.0.frames → j < 1024 → st.word ≡ 1025 * f + 1 + j → n ≡ slice_index (frame_at me.0.frames f).contents j
  pub whole : (f : ℕ) → f < length me.0.frames → length (frame_at me.0.frames f).contents ≡ 1024
  pub agrees : AllAgree me.0.frames me.0.pins
  pub remembered : AllRemembered me.0.frames me.0.remembered

-- load by a pin's seat: the block word of a frame that it counts on is the pin's, which has 1,024 of them
abbrev pub ReadsBlockWord : Step (Unit {0}) → Sat → ℕ → Sat → Type 0
ReadsBlockWord st me n me' = (me' ≡ me) × ((i : ℕ) (p : Pinned) (j : ℕ) → get_elem? me.0.pins i ≡ some p → j < 1024 → st.word ≡ 1025 * p.number + 1 + j → (n ≡ slice_index p.contents j) × (length p.contents ≡ 1024))

-- pin: where the word was the expected one, some pin of its frame came to the seat
abbrev pub Pins : Step (Unit {0}) → Sat → ℕ → Sat → Type 0
Pins st me n me' =
    (n ≡ st.first → (p : Pinned) × (1025 * p.number ≡ st.word) × (me' ≡ (with_pins me.0 (p ∷ me.0.pins), me.1)))
    × (n ≢ st.first → me' ≡ me)

-- unpin: the newest pin went from the seat
abbrev pub Unpins : Step (Unit {0}) → Sat → ℕ → Sat → Type 0
Unpins st me n me' = me' ≡ (with_pins me.0 (older me.0.pins), me.1)

-- a seat that knows nothing but another's pins
abbrev pub pins_of : View → View
pins_of v = record nothing_known { pins = v.pins }

-- the view without its pins
abbrev pub without_pins : View → View
without_pins v = with_pins v []

-- a seat that remembers all that another remembers and counts on, and counts on nothing itself
abbrev pub memory_of : View → View
memory_of v = record nothing_known { remembered = v.remembered ++ v.pins }

-- the view with another's pins before its own, and with what the other remembers before its own
abbrev pub joined_view : View → View → View
joined_view v w = record v { pins = w.pins ++ v.pins; remembered = w.remembered ++ v.remembered }

-- the step left the seat its table, its number and its slots
abbrev pub IsSameSeat : Seat (Unit {0}) View → Seat (Unit {0}) View → Type 0
IsSameSeat old new = (new.table_id ≡ old.table_id) × (new.id ≡ old.id) × (new.me.1 ≡ old.me.1)

-- a frame may go on to its next phase: it isn't being emptied, and a free one may still rise by one generation
abbrev pub CanRise : Frame → Type 0
CanRise k = (code_of k.phase < 3) × (code_of k.phase ≡ 0 → k.generation + 1 < 2 ^ 32)

-- some pin of frame f came to the view
abbrev pub GainsPin : ℕ → View → View → Type 0
GainsPin f v w = (p : Pinned) × (p.number ≡ f) × (w ≡ with_pins v (p ∷ v.pins))
