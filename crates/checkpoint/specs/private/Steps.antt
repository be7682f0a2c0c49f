-- What one step of the writing or the drop of a checkpoint does.
use Rattle.std.specs.Prelude.{◌≡◌, ◌⊎◌, ℕ, true, false, List, Option, Some, None, IsSome}
use Rattle.s4_types.specs.Pointer.{Place}
use Rattle.block_log.specs.Growth.{Puts}
use Rattle.block_log.specs.Log.{Log, Stored}
use Rattle.block_log.specs.declared.kinds.BlockKind.TheVariants as kind
use Rattle.codec.specs.Checkpoint.{CheckpointFields}
use Rattle.codec.specs.Parts.{pointers_of}
use Rattle.codec.specs.PointerBlock.{SpellsPointers}
use Rattle.codec.specs.declared.pointer_blocks.PointerBlock.{PointerBlock}
use Rattle.checkpoint.specs.Held.{of_checkpoints, is_one_of, OnlyCheckpointChanged}

-- The block of a part was put at a place.
pub record PutsPart (c : CheckpointFields) (part : ℕ) (before : Log) (q : Place) (after : Log) : Type 0 where
  pub block : PointerBlock
  pub bytes : List ℕ
  pub has : pointers_of c part ≡ Some block
  pub spells : SpellsPointers bytes block
  pub puts : Puts before (record { kind = kind.Pointers; object = c.object; bytes = bytes }) q after

-- a part was written, which is nothing where its pointers are holes
abbrev pub WritesPart : CheckpointFields → ℕ → Log → Option Place → Log → Type 0
WritesPart c part before None after = (pointers_of c part ≡ None) × (after ≡ before)
WritesPart c part before (Some q) after = PutsPart c part before q after

-- Nothing is held any longer at these places; all else is as it was.
pub record DropsPlaces (before : Place → Option Stored) (object : ℕ) (places : List Place) (after : Place → Option Stored) : Type 0 where
  pub gone : (q : Place) → is_one_of places q ≡ true → after q ≡ None
  pub kept : (q : Place) → is_one_of places q ≡ false → after q ≡ before q
  pub others : OnlyCheckpointChanged object before after

-- nothing but a block of the object's checkpoints is held at a place
abbrev pub HasNoOther : (Place → Option Stored) → ℕ → Place → Type 0
HasNoOther held o q = IsSome (of_checkpoints o held q) ⊎ (held q ≡ None)
