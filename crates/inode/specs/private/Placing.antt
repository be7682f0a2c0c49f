-- What putting the bytes of a write into one block leaves.
use Rattle.std.specs.Prelude.{◌≡◌, ℕ, ◌+◌, ◌-◌, ◌*◌, ◌<◌, ◌&&◌, nat_lt, nat_le, if◌then◌else◌, List, length, slice_index}

-- The bytes of a write at an offset were put into the block of an index, as far as they are in it: there the block has
-- them, and elsewhere its bytes are as they were.
abbrev pub Placed : ℕ → ℕ → List ℕ → List ℕ → List ℕ → Type 0
Placed index offset bytes before after = (n : ℕ) → n < 512
    → slice_index after n ≡ (if nat_le offset (512 * index + n) && nat_lt (512 * index + n) (offset + length bytes) then slice_index bytes (512 * index + n - offset) else slice_index before n)
