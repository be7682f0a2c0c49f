-- How what is held of a table grows, where nothing else changes.
use Rattle.std.specs.Prelude.{◌≡◌, ℕ, List, map, Option, Some, ◌⊎◌}
use Rattle.std.specs.List.{Contains}
use Rattle.s4_types.specs.Pointer.{Place}
use Rattle.block_log.specs.Log.{Stored}
use Rattle.segment_table.specs.Table.{Table, slots_at}
use Rattle.segment_table.specs.Used.{used_at}

-- Beside what was held, the used blocks at these places are held, and nothing else.
pub record HoldsAlso (used held after : Place → Option Stored) (places : List Place) : Type 0 where
  pub only : (p : Place) (block : Stored) → after p ≡ Some block → (held p ≡ Some block) ⊎ (Contains places p × (used p ≡ Some block))
  pub kept : (p : Place) (block : Stored) → held p ≡ Some block → used p ≡ Some block → after p ≡ Some block
  pub added : (p : Place) → Contains places p → after p ≡ used p

-- two tables have the same frames, and of these the same blocks are used, for the same
pub record IsUsedAlike (old new : Table) : Type 0 where
  pub used : (p : Place) → used_at new p ≡ used_at old p
  pub frames : new.seat.frames ≡ old.seat.frames
  pub slots : (f : ℕ) → map (λ slot. slot.role) (slots_at new.slots f) ≡ map (λ slot. slot.role) (slots_at old.slots f)
