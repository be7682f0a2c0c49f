-- Where the words of a frame stand, and what they encode. Frame f has 1,025 words from 1025 * f on: its state word, then
-- 64 words for each of its 16 blocks.
use Rattle.std.specs.Prelude.{ℕ, zero, suc, ◌+◌, ◌*◌, ◌/◌, ◌%◌, ◌^◌, List, [], ◌∷◌, ◌++◌, length, take, drop, flat_map, slice_index, slice_index_or, if◌then◌else◌, ◌==◌}
use Rattle.byteorder.specs.Endian.{big_bytes, big_number}
use Rattle.segment_word.specs.Frames.{Phase, Free, Open, Sealed, Draining, Frame, code_of, no_frame}

-- the state word of a frame: its phase in the 2 low bits, its readers in the next 30, its generation in the 32 high ones
abbrev pub word_of : Frame → ℕ → ℕ
word_of k readers = code_of k.phase + 4 * readers + 2 ^ 32 * k.generation

-- the frame of that number
abbrev pub frame_at : List Frame → ℕ → Frame
frame_at frames f = slice_index_or frames f no_frame

-- the phase that two low bits name
abbrev pub phase_of : ℕ → Phase
phase_of code = if code == 0 then Free else (if code == 1 then Open else (if code == 2 then Sealed else Draining))

-- the frame that the words from its state word on encode
abbrev pub frame_of : List ℕ → Frame
frame_of words = let state = slice_index words 0 in record { phase = phase_of (state % 4); generation = state / 2 ^ 32; contents = take 1024 (drop 1 words) }

-- the first n frames that words give
abbrev pub first_frames : ℕ → List ℕ → List Frame
first_frames zero words = []
first_frames (suc n) words = frame_of words ∷ first_frames n (drop 1025 words)

-- the frames that words give
abbrev pub frames_of : List ℕ → List Frame
frames_of words = first_frames (length words / 1025) words

-- the 512 bytes of block b: its 64 words, the highest byte of each first
unfoldable pub block_bytes : List ℕ → ℕ → List ℕ
block_bytes contents b = flat_map (big_bytes 8) (take 64 (drop (64 * b) contents))

-- the first n words that bytes encode
abbrev pub first_words : ℕ → List ℕ → List ℕ
first_words zero bytes = []
first_words (suc n) bytes = big_number 8 bytes ∷ first_words n (drop 8 bytes)

-- the 64 words of a block of 512 bytes
unfoldable pub block_words : List ℕ → List ℕ
block_words bytes = first_words 64 bytes

-- the frame with the first n words from place `at` of its blocks on replaced
abbrev pub with_words : Frame → ℕ → List ℕ → ℕ → Frame
with_words k at words n = record k { contents = take at k.contents ++ take n words ++ drop (at + n) k.contents }

-- the frame with these 512 bytes in block b
abbrev pub with_block : Frame → ℕ → List ℕ → Frame
with_block k b bytes = with_words k (64 * b) (block_words bytes) 64
