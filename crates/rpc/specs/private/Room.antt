-- What writing into room that was taken before leaves.
use Rattle.std.specs.Prelude.{◌≡◌, ℕ, ◌+◌, ◌≤◌, List, ◌++◌, length, vec_len, vec_capacity}
use Rattle.std.specs.Global.{Vec}

-- there is room for this many bytes after those that are there
abbrev pub HasRoom : Vec ℕ → ℕ → Type 0
HasRoom out count = vec_len out + count ≤ vec_capacity out

-- the bytes are at the end, and no room was lost
pub record Appended (old new : Vec ℕ) (bytes : List ℕ) : Type 0 where
  pub items : new.items ≡ old.items ++ bytes
  pub len : vec_len new ≡ vec_len old + length bytes
  pub capacity : vec_capacity old ≤ vec_capacity new
