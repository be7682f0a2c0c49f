-- What holds of the words of frames that no seat knows yet. No public clause cites this file.
use Rattle.std.specs.Prelude.{◌≡◌, ℕ, ◌+◌, ◌*◌, ◌/◌, ◌%◌, ◌^◌, ◌<◌, ◌≤◌, List, length, slice_index}
use Rattle.s4_types.specs.Sizes.{IsFrameCount}

-- a state word that counts no reader: a phase and a generation, of which one may follow where the frame isn't free
pub record IsUnreadWord (n : ℕ) : Type 0 where
  pub unread : n % 2 ^ 32 < 4
  pub started : 2 ^ 32 ≤ n
  pub numbered : n < 2 ^ 64
  pub goes_on : 0 < n % 4 → n / 2 ^ 32 + 1 < 2 ^ 32

-- the words of as many frames as a drive can have, which nobody reads
pub record AreFrameWords (words : List ℕ) : Type 0 where
  pub whole : length words ≡ 1025 * (length words / 1025)
  pub count : IsFrameCount (length words / 1025)
  pub states : (f : ℕ) → f < length words / 1025 → IsUnreadWord (slice_index words (1025 * f))
