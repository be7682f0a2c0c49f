-- The frames of an image: how each is encoded and read, and their rules.
use Rattle.std.specs.Prelude.{◌≡◌, ◌≢◌, ℕ, zero, suc, ◌+◌, ◌/◌, ◌%◌, ◌^◌, ◌<◌, ◌≤◌, ◌==◌, Bool, List, [], ◌∷◌, ◌++◌, length, take, drop, slice_index_or, count_by, true, if◌then◌else◌}
use Rattle.std.specs.Int.{w64}
use Rattle.std.specs.List.{AllByRecursion}
use Rattle.std.specs.Simd.{first_chunks}
use Rattle.codec.specs.Fields.{number}
use Rattle.codec.specs.Summary.{SummaryFields, SpellsSummary, has_no_parts}
use Rattle.codec.specs.declared.versions.ImageVersion.{ImageVersion}
use Rattle.codec.specs.declared.versions.ImageVersion.TheVariants.{First, Second}
use Rattle.image_parts.specs.Header.{AreBytes, number_in}
use Rattle.image_parts.specs.declared.frame_rules.FrameRead.{FrameRead}
use Rattle.image_parts.specs.declared.frame_rules.FrameRead.TheVariants.{Free, Used}

-- a frame: its word, and the bytes of its 16 blocks, or none where it is free
pub record FrameFields : Type 0 where
  pub word : ℕ
  pub contents : List ℕ

-- what the word tells: its state in the 2 low bits, 0 where the frame is free and 1 where it is open; its readers in the
-- next 30; its generation in the 32 high ones
abbrev pub state_of : ℕ → ℕ
state_of word = word % 4

abbrev pub readers_of : ℕ → ℕ
readers_of word = word / 4 % 2 ^ 30

abbrev pub generation_of : ℕ → ℕ
generation_of word = word / 2 ^ 32

-- how many bytes follow a word: its state alone decides
unfoldable pub contents_length : ℕ → ℕ
contents_length word = if state_of word == 0 then 0 else 8192

-- the blocks that a frame's bytes are, the summary first
unfoldable pub blocks_of : List ℕ → List (List ℕ)
blocks_of contents = first_chunks 512 (length contents / 512) contents

-- ---- encoding

abbrev pub frame_bytes : FrameFields → List ℕ
frame_bytes f = number w64 f.word ++ f.contents

-- a frame has an encoding: its word is one, and its bytes are as many as the word says
pub record IsFrame (f : FrameFields) : Type 0 where
  pub word : f.word < 2 ^ 64
  pub contents : length f.contents ≡ contents_length f.word
  pub bytes : AreBytes f.contents

-- ---- reading

-- how many bytes the frame has that bytes begin with
abbrev pub frame_length : List ℕ → ℕ
frame_length bytes = 8 + contents_length (number_in w64 bytes)

-- the frame that bytes begin with
abbrev pub frame_in : List ℕ → FrameFields
frame_in bytes = record { word = number_in w64 bytes; contents = take (contents_length (number_in w64 bytes)) (drop 8 bytes) }

-- how many bytes the first n frames have
abbrev pub frames_length : ℕ → List ℕ → ℕ
frames_length zero bytes = 0
frames_length (suc n) bytes = frame_length bytes + frames_length n (drop (frame_length bytes) bytes)

-- the first n frames
abbrev pub frames_in : ℕ → List ℕ → List FrameFields
frames_in zero bytes = []
frames_in (suc n) bytes = frame_in bytes ∷ frames_in n (drop (frame_length bytes) bytes)

-- ---- rules

-- The first block is the summary of this frame at this generation, over the 15 blocks after it. Of an open frame at most 14
-- of these are used.
pub record HasSummary (number : ℕ) (f : FrameFields) : Type 0 where
  pub summary : SummaryFields
  pub frame : summary.frame ≡ number
  pub generation : summary.generation ≡ generation_of f.word
  pub spelled : SpellsSummary (drop 1 (blocks_of f.contents)) (slice_index_or (blocks_of f.contents) 0 []) summary
  pub room : state_of f.word ≡ 1 → length summary.roles ≤ 14

-- What is read of a frame: nothing of a free one, and of any other the summary that its first block encodes over those after it.
abbrev pub IsReadOf : FrameFields → FrameRead → Type 0
IsReadOf f Free = state_of f.word ≡ 0
IsReadOf f (Used summary) =
    (state_of f.word ≢ 0) × SpellsSummary (drop 1 (blocks_of f.contents)) (slice_index_or (blocks_of f.contents) 0 []) summary

-- the rules of the frame of this number
pub record KeepsFrameRules (number : ℕ) (f : FrameFields) : Type 0 where
  pub readers : readers_of f.word ≡ 0
  pub least : 1 ≤ generation_of f.word
  pub most : state_of f.word ≢ 0 → generation_of f.word + 1 < 2 ^ 32
  pub summary : state_of f.word ≢ 0 → HasSummary number f

-- each of the frames from this number on keeps the rules
abbrev pub EachKeepsFrameRules : ℕ → List FrameFields → Type 0
EachKeepsFrameRules number [] = Unit {0}
EachKeepsFrameRules number (f ∷ frames) = KeepsFrameRules number f × EachKeepsFrameRules (number + 1) frames

abbrev pub is_open : FrameFields → Bool
is_open f = state_of f.word == 1

-- the rules of all frames: each keeps its own, and at most one is open
pub record KeepFrameRules (frames : List FrameFields) : Type 0 where
  pub each : EachKeepsFrameRules 0 frames
  pub open_one : count_by is_open frames ≤ 1

-- no block of the frame is listed as a part of a checkpoint
abbrev pub HasNoParts : FrameFields → Type 0
HasNoParts f =
    state_of f.word ≢ 0 → (s : SummaryFields) → SpellsSummary (drop 1 (blocks_of f.contents)) (slice_index_or (blocks_of f.contents) 0 []) s → has_no_parts s ≡ true

-- the rules of the frame of this number in an image of a version: a checkpoint of the first version is one block
abbrev pub KeepsFrameRulesBy : ImageVersion → ℕ → FrameFields → Type 0
KeepsFrameRulesBy First number f = KeepsFrameRules number f × HasNoParts f
KeepsFrameRulesBy Second number f = KeepsFrameRules number f

-- the rules of all frames in an image of a version
abbrev pub KeepFrameRulesBy : ImageVersion → List FrameFields → Type 0
KeepFrameRulesBy First frames = KeepFrameRules frames × AllByRecursion HasNoParts frames
KeepFrameRulesBy Second frames = KeepFrameRules frames
