-- What is known of frames, as plain data.
use Rattle.std.specs.Prelude.{ℕ, Bool, true, false, List, []}

-- what a frame is for at present
pub data Phase : Type 0 where
  Free : Phase
  Open : Phase
  Sealed : Phase
  Draining : Phase

-- the two low bits of the frame's word
abbrev pub code_of : Phase → ℕ
code_of Free = 0
code_of Open = 1
code_of Sealed = 2
code_of Draining = 3

abbrev pub is_free : Phase → Bool
is_free Free = true
is_free Open = false
is_free Sealed = false
is_free Draining = false

abbrev pub is_open : Phase → Bool
is_open Free = false
is_open Open = true
is_open Sealed = false
is_open Draining = false

abbrev pub is_sealed : Phase → Bool
is_sealed Free = false
is_sealed Open = false
is_sealed Sealed = true
is_sealed Draining = false

abbrev pub is_draining : Phase → Bool
is_draining Free = false
is_draining Open = false
is_draining Sealed = false
is_draining Draining = true

-- a frame: what it is for, its generation, and its 1,024 block words
pub record Frame : Type 0 where
  pub phase : Phase
  pub generation : ℕ
  pub contents : List ℕ

-- a frame that is or was counted on: its number, and the generation and block words that it had then
pub record Pinned : Type 0 where
  pub number : ℕ
  pub generation : ℕ
  pub contents : List ℕ

-- the releases that were tried: how many, and of the last one the frame and the word that it found
pub record Releases : Type 0 where
  pub tried : ℕ
  pub last : ℕ
  pub found : ℕ

-- What a seat of the table knows. The drive's seat knows every frame, while a pin is lent to it that pin's frames, and
-- all that it was ever told of memories; the seat of a pin knows the frames that it counts on, the newest first; the
-- seat of a memory remembers frames that a pin counted on once, and keeps none of them from being released.
pub record View : Type 0 where
  pub frames : List Frame
  pub releases : Releases
  pub pins : List Pinned
  pub remembered : List Pinned

abbrev pub no_releases : Releases
no_releases = record { tried = 0; last = 0; found = 0 }

-- the view of a seat that knows nothing
abbrev pub nothing_known : View
nothing_known = record { frames = []; releases = no_releases; pins = []; remembered = [] }

-- is where a list has no frame of that number
abbrev pub no_frame : Frame
no_frame = record { phase = Free; generation = 0; contents = [] }
