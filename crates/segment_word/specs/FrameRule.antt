-- The frame rule: what holds of the words of the table and of all that the seats know, between any two steps.
use Rattle.std.specs.Prelude.{◌≡◌, ℕ, ◌+◌, ◌*◌, ◌^◌, ◌<◌, ◌≤◌, List, [], length, slice_index}
use mathlib.Core.Option.{some}
use lib.ListN.{get_elem?}
use Rattle.atomic_table.specs.Table.{State}
use Rattle.segment_word.specs.Frames.{Frame, Pinned, View, code_of, no_releases}
use Rattle.segment_word.specs.Layout.{word_of, frame_at, frames_of}
use Rattle.segment_word.specs.Counting.{readers, drive_frames}

-- The words say of frame f what is known of it, and count its pins. An open or free frame has none, and a frame that
-- isn't free may still rise by one generation.
pub record IsKeptFrame (words : List ℕ) (pins : ℕ) (f : ℕ) (k : Frame) : Type 0 where
  pub state : slice_index words (1025 * f) ≡ word_of k pins
  pub blocks : (j : ℕ) → j < 1024 → slice_index words (1025 * f + 1 + j) ≡ slice_index k.contents j
  pub whole : length k.contents ≡ 1024
  pub counted : pins ≤ 1048576
  pub unread : code_of k.phase < 2 → pins ≡ 0
  pub started : 0 < k.generation
  pub numbered : k.generation < 2 ^ 32
  pub goes_on : 0 < code_of k.phase → k.generation + 1 < 2 ^ 32

-- a pin tells the truth: its frame is sealed or being emptied, at the pin's generation, with the pin's contents
pub record Agrees (frames : List Frame) (p : Pinned) : Type 0 where
  pub inside : p.number < length frames
  pub sealed : 2 ≤ code_of (frame_at frames p.number).phase
  pub generation : p.generation ≡ (frame_at frames p.number).generation
  pub contents : p.contents ≡ (frame_at frames p.number).contents

-- each pin of the list does
abbrev pub AllAgree : List Frame → List Pinned → Type 0
AllAgree frames pins = (i : ℕ) (p : Pinned) → get_elem? pins i ≡ some p → Agrees frames p

-- What is remembered of a frame is true of the generation that it had: the frame has come so far. While it is no further,
-- it is sealed or being emptied, with the contents that are remembered.
pub record IsRemembered (frames : List Frame) (p : Pinned) : Type 0 where
  pub inside : p.number < length frames
  pub reached : p.generation ≤ (frame_at frames p.number).generation
  pub same : p.generation ≡ (frame_at frames p.number).generation → Agrees frames p

-- each of the list is
abbrev pub AllRemembered : List Frame → List Pinned → Type 0
AllRemembered frames memories = (i : ℕ) (p : Pinned) → get_elem? memories i ≡ some p → IsRemembered frames p

-- the rule, where the drive's seat knows these frames
pub record FrameRules (words : List ℕ) (views : List View) (frames : List Frame) : Type 0 where
  pub sized : length words ≡ 1025 * length frames
  pub some_frame : 0 < length frames
  pub kept : (f : ℕ) → f < length frames → IsKeptFrame words (readers f views) f (frame_at frames f)
  pub pinned : (id : ℕ) (v : View) → get_elem? views id ≡ some v → AllAgree frames v.pins
  pub remembered : (id : ℕ) (v : View) → get_elem? views id ≡ some v → AllRemembered frames v.remembered

abbrev pub FrameRule : State (Unit {0}) View → Type 0
FrameRule s = FrameRules s.words s.views (drive_frames s.views)

-- what the drive's seat knows at the start, from the words that the table is made of
abbrev pub opening_view : List ℕ → View
opening_view words = record { frames = frames_of words; releases = no_releases; pins = []; remembered = [] }
