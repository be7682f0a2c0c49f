-- What is read of the bytes from the end of some records on.
use Rattle.std.specs.Prelude.{◌≡◌, ◌⊎◌, ℕ, ◌+◌, ◌-◌, ◌*◌, ◌^◌, ◌<◌, ◌≤◌, List, ◌++◌, length, take, drop, slice_index}
use Rattle.std.specs.Int.{w32, w64, from_be_bytes}
use Rattle.update_log.specs.Records.{Entry, nonzeros}
use Rattle.update_log.specs.Sectors.{further_count, further_in, size_of}

-- the number that four bytes begin with, and eight
unfoldable pub word_in : List ℕ → ℕ
word_in bytes = from_be_bytes w32 (take 4 bytes)

unfoldable pub long_in : List ℕ → ℕ
long_in bytes = from_be_bytes w64 (take 8 bytes)

-- the count of a record
unfoldable pub count_in : List ℕ → ℕ
count_in tail = word_in (drop 1 tail)

-- how far the log goes, as a record says
unfoldable pub limit_in : List ℕ → ℕ
limit_in tail = long_in (drop 13 tail)

-- how many bytes the payload of a record has
unfoldable pub length_in : List ℕ → ℕ
length_in tail = word_in (drop 21 tail)

-- how many bytes of a record aren't zero, its count aside
unfoldable pub found_in : List ℕ → ℕ
found_in tail = nonzeros (take 1 tail) + nonzeros (take (size_of (length_in tail) - 5) (drop 5 tail))

-- A record's count and the bytes of it that aren't zero make 2^32 - 1. A loss of bytes to zeros lowers what they make, whatever bytes
-- are lost: of the length fewer bytes are looked at then, and the count is written so that a loss lowers it.
unfoldable pub weight : List ℕ → ℕ
weight tail = count_in tail + found_in tail

unfoldable pub payload_in : List ℕ → List ℕ
payload_in tail = take (length_in tail) (take 455 (drop 57 tail) ++ further_in (further_count (length_in tail)) (drop 512 tail))

unfoldable pub entry_in : List ℕ → Entry
entry_in tail = record { limit = limit_in tail; payload = payload_in tail }

-- a mark that a further sector may have while its record is written
abbrev pub IsFurtherMark : ℕ → Type 0
IsFurtherMark mark = (mark ≡ 0) ⊎ (mark ≡ 2)

-- after the first sector no record begins
abbrev pub OthersFit : List ℕ → Type 0
OthersFit tail = (k : ℕ) → 0 < k → 512 * k < length tail → IsFurtherMark (slice_index tail (512 * k))

-- No record begins here that was written whole: some of its bytes are missing, or it wasn't begun. No other one begins after it.
pub record IsOpen (tail : List ℕ) : Type 0 where
  pub missing : 512 ≤ length tail → weight tail < 2 ^ 32 - 1
  pub first : slice_index tail 0 ≤ 1
  pub others : OthersFit tail

-- each byte of the tail is that of a second one, or zero
pub record Masks (tail whole : List ℕ) : Type 0 where
  pub long : length tail ≡ length whole
  pub each : (i : ℕ) → (slice_index tail i ≡ 0) ⊎ (slice_index tail i ≡ slice_index whole i)
