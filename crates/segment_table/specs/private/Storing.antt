-- What storing blocks in a frame one by one leaves. No public clause cites this file.
use Rattle.std.specs.Prelude.{◌≡◌, ℕ, ◌<◌, List, [], length, slice_set, slice_index_or}
use Rattle.segment_word.specs.Frames.{Frame}
use Rattle.segment_word.specs.Layout.{frame_at, block_bytes}

-- The first n of these blocks were stored in frame f, and have 512 bytes each; of the frame nothing else has changed but blocks
-- after them, and no other frame has.
pub record AreStored (f n : ℕ) (blocks : List (List ℕ)) (old new : List Frame) : Type 0 where
  pub alone : new ≡ slice_set old f (frame_at new f)
  pub phase : (frame_at new f).phase ≡ (frame_at old f).phase
  pub generation : (frame_at new f).generation ≡ (frame_at old f).generation
  pub stored : (b : ℕ) → b < n → block_bytes (frame_at new f).contents b ≡ slice_index_or blocks b []
  pub whole : (b : ℕ) → b < n → length (block_bytes (frame_at new f).contents b) ≡ 512
