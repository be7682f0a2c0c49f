-- Where a block lies.
use Rattle.std.specs.Prelude.{ℕ, ◌<◌, ◌≤◌, ◌+◌, ◌^◌}

-- a payload block of a frame, at one generation of that frame
pub record Place : Type 0 where
  pub frame : ℕ
  pub block : ℕ
  pub generation : ℕ

-- The numbers that a pointer may have: payload blocks are 1 to 15, generations 1 to 2^32 - 2.
pub record IsPlace (p : Place) : Type 0 where
  pub frame : p.frame < 2 ^ 16
  pub lowest_block : 1 ≤ p.block
  pub highest_block : p.block ≤ 15
  pub lowest_generation : 1 ≤ p.generation
  pub highest_generation : p.generation + 1 < 2 ^ 32
