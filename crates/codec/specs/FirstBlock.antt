-- The first block of a checkpoint: how it is encoded.
use Rattle.std.specs.Prelude.{◌≡◌, ℕ, ◌^◌, ◌<◌, ◌≤◌, Bool, List, ◌∷◌, ◌++◌, length, Option, Some}
use Rattle.std.specs.Int.{w32, w64}
use Rattle.std.specs.List.{flat_map, AllByRecursion}
use Rattle.s4_types.specs.declared.limits.TheConstants.{CHECKPOINT_POINTERS, CHECKPOINT_PARTS}
use Rattle.codec.specs.Fields.{◌>>=◌, number, slot, bit, padded, byte_at, number_at, mark_at, flag_at, slot_at, many_at, padded_at}
use Rattle.codec.specs.Checkpoint.{IsSlot}
use Rattle.codec.specs.declared.first_blocks.FirstBlock.{FirstBlock}

-- the numbers of a first block are in their ranges
pub record FirstNumbers (f : FirstBlock) : Type 0 where
  pub object : f.object < 2 ^ 64
  pub moment : f.moment < 2 ^ 64
  pub size : f.size < 2 ^ 32
  pub created : f.created < 2 ^ 64
  pub changed : f.changed < 2 ^ 64
  pub attribute : length f.attribute ≤ 64
  pub count : length f.pointers ≡ CHECKPOINT_POINTERS
  pub pointers : AllByRecursion IsSlot f.pointers
  pub count_parts : length f.parts ≡ CHECKPOINT_PARTS
  pub parts : AllByRecursion IsSlot f.parts

-- the block that is the first of a checkpoint
unfoldable pub first_spelling : FirstBlock → List ℕ
first_spelling f =
    2 ∷ bit f.alive ∷ length f.attribute ∷ 0 ∷ (number w32 f.size ++ (number w64 f.object ++ (number w64 f.moment ++ (number w64 f.created ++ (number w64 f.changed ++ (padded f.attribute ++ (flat_map slot f.pointers ++ flat_map slot f.parts)))))))

-- the block encodes this first block
abbrev pub SpellsFirst : List ℕ → FirstBlock → Type 0
SpellsFirst block f = FirstNumbers f × (block ≡ first_spelling f)

-- reading what comes after the moments of a first block
abbrev pub behind_moments : Bool → ℕ → ℕ → ℕ → ℕ → ℕ → ℕ → List ℕ → Option (FirstBlock × List ℕ)
behind_moments alive len size object moment created changed bytes = do
  attribute ← padded_at len bytes
  pointers ← many_at slot_at CHECKPOINT_POINTERS attribute.1
  parts ← many_at slot_at CHECKPOINT_PARTS pointers.1
  Some (record { object = object; moment = moment; alive = alive; size = size; created = created; changed = changed; attribute = attribute.0; pointers = pointers.0; parts = parts.0 }, parts.1)

-- reading what comes after the size of a first block
abbrev pub behind_size : Bool → ℕ → ℕ → List ℕ → Option (FirstBlock × List ℕ)
behind_size alive len size bytes = do
  object ← number_at w64 bytes
  moment ← number_at w64 object.1
  created ← number_at w64 moment.1
  changed ← number_at w64 created.1
  behind_moments alive len size object.0 moment.0 created.0 changed.0 changed.1

-- reading a first block
unfoldable pub first_at : List ℕ → Option (FirstBlock × List ℕ)
first_at bytes = do
  mark ← mark_at 2 bytes
  alive ← flag_at mark.1
  len ← byte_at alive.1
  gap ← mark_at 0 len.1
  size ← number_at w32 gap.1
  behind_size alive.0 len.0 size.0 size.1
