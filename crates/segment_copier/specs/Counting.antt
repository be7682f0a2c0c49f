-- What emptying a frame writes, and whose blocks it holds.
use Rattle.std.specs.Prelude.{◌≡◌, ℕ, ◌+◌, ◌<◌, ◌==◌, Bool, if◌then◌else◌, List, [], ◌∷◌, ◌++◌, length, Option, Some, None}
use Rattle.std.specs.List.{list_any}
use Rattle.s4_types.specs.Pointer.{Place}
use Rattle.block_log.specs.Log.{Stored, same_kind}
use Rattle.block_log.specs.declared.kinds.BlockKind.{BlockKind}
use Rattle.block_log.specs.declared.kinds.BlockKind.TheVariants.{Data}
use Rattle.segment_word.specs.Layout.{frame_at}
use Rattle.segment_table.specs.Table.{Table, held_at}
use Rattle.segment_table.specs.Room.{whole_of}
use Rattle.segment_table.specs.Counts.{held_count}
use Rattle.segment_copier.specs.Choosing.{IsLife}
use Rattle.segment_copier.specs.declared.counting.Counted.{Counted}

-- ---- whose the blocks are

abbrev pub is_among : ℕ → List ℕ → Bool
is_among o objects = list_any (λ one. one == o) objects

-- these objects, and that of what is held at a place
abbrev pub objects_at : List ℕ → Option Stored → List ℕ
objects_at before None = before
objects_at before (Some block) = before ++ block.object ∷ []

-- the objects of what is held at these places, after these ones, in the order of their blocks
abbrev pub objects_after : Table → List ℕ → List Place → List ℕ
objects_after t before [] = before
objects_after t before (p ∷ places) = objects_after t (objects_at before (held_at t p)) places

-- the object of each block that a frame holds
abbrev pub objects_in : Table → ℕ → List ℕ
objects_in t f = objects_after t [] (whole_of t f)

-- ---- what is written, by what is written of each object whatever frame it leaves: its checkpoint and its journal

-- How many blocks are written for a held block of this kind: itself where it is of data; and what is written of its object, where
-- none of the objects before it is the same.
abbrev pub blocks_added : (ℕ → ℕ) → List ℕ → BlockKind → ℕ → ℕ
blocks_added written before kind o = (if same_kind Data kind then 1 else 0) + (if is_among o before then 0 else written o)

-- the same of what is held at a place
abbrev pub added_at : (ℕ → ℕ) → List ℕ → Option Stored → ℕ
added_at written before None = 0
added_at written before (Some block) = blocks_added written before block.kind block.object

-- how many blocks are written to move what is held at these places, after blocks of these objects
abbrev pub blocks_to_move : (ℕ → ℕ) → Table → List ℕ → List Place → ℕ
blocks_to_move written t before [] = 0
blocks_to_move written t before (p ∷ places) = added_at written before (held_at t p) + blocks_to_move written t (objects_at before (held_at t p)) places

-- how many blocks the moves of all objects out of a frame write
abbrev pub blocks_to_empty : (ℕ → ℕ) → Table → ℕ → ℕ
blocks_to_empty written t f = blocks_to_move written t [] (whole_of t f)

-- ---- what was counted

-- of all blocks of frame f, which is there, at a generation that pointers have
pub record IsCounted (written : ℕ → ℕ) (t : Table) (f : ℕ) (c : Counted) : Type 0 where
  pub inside : f < length t.seat.frames
  pub life : IsLife (frame_at t.seat.frames f).generation
  pub blocks : c.blocks ≡ blocks_to_empty written t f
  pub objects : c.objects.items ≡ objects_in t f
  pub held : length c.objects.items ≡ held_count t f
