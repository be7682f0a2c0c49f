-- A block with pointers of a checkpoint that have no room in its first block: how it is encoded.
use Rattle.std.specs.Prelude.{◌≡◌, ℕ, ◌^◌, ◌<◌, List, ◌∷◌, ◌++◌, length, Option, Some}
use Rattle.std.specs.Int.{w64}
use Rattle.std.specs.List.{flat_map, AllByRecursion}
use Rattle.s4_types.specs.declared.limits.TheConstants.{CHECKPOINT_POINTERS}
use Rattle.codec.specs.declared.pointer_blocks.TheConstants.{GAP_BYTES, END_BYTES}
use Rattle.codec.specs.Fields.{◌>>=◌, number, zeros, slot, byte_at, number_at, zeros_at, mark_at, slot_at, many_at}
use Rattle.codec.specs.Checkpoint.{IsSlot}
use Rattle.codec.specs.declared.pointer_blocks.PointerBlock.{PointerBlock}

-- the numbers of a pointer block are in their ranges
pub record PointerNumbers (b : PointerBlock) : Type 0 where
  pub part : b.part < 256
  pub object : b.object < 2 ^ 64
  pub moment : b.moment < 2 ^ 64
  pub count : length b.pointers ≡ CHECKPOINT_POINTERS
  pub pointers : AllByRecursion IsSlot b.pointers

-- the block of pointers
unfoldable pub pointers_spelling : PointerBlock → List ℕ
pointers_spelling b = 4 ∷ b.part ∷ (zeros GAP_BYTES ++ (number w64 b.object ++ (number w64 b.moment ++ (flat_map slot b.pointers ++ zeros END_BYTES))))

-- the block encodes this pointer block
abbrev pub SpellsPointers : List ℕ → PointerBlock → Type 0
SpellsPointers block b = PointerNumbers b × (block ≡ pointers_spelling b)

-- reading what comes after the part of a pointer block
abbrev pub behind_part : ℕ → List ℕ → Option (PointerBlock × List ℕ)
behind_part part bytes = do
  gap ← zeros_at GAP_BYTES bytes
  object ← number_at w64 gap.1
  moment ← number_at w64 object.1
  pointers ← many_at slot_at CHECKPOINT_POINTERS moment.1
  end ← zeros_at END_BYTES pointers.1
  Some (record { part = part; object = object.0; moment = moment.0; pointers = pointers.0 }, end.1)

-- reading a pointer block
unfoldable pub pointers_at : List ℕ → Option (PointerBlock × List ℕ)
pointers_at bytes = do
  mark ← mark_at 4 bytes
  part ← byte_at mark.1
  behind_part part.0 part.1
