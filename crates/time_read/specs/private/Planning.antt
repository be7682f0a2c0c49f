-- How a plan comes about, block by block.
use Rattle.std.specs.Prelude.{◌≡◌, ℕ, ◌<◌, ◌++◌, ◌⊎◌, ◌↔◌, true, false, [], ◌∷◌, Option}
use Rattle.s4_types.specs.Pointer.{Place}
use Rattle.inode.specs.Contents.{contents_of}
use Rattle.inode.specs.Laws.{slot_bytes}
use Rattle.segment_word.specs.Handles.{Held}
use Rattle.segment_word.specs.Layout.{block_bytes}
use Rattle.segment_word.specs.Counting.{pins_in}
use Rattle.segment_table.specs.Table.{Table, held_at}
use Rattle.time_read.specs.Plans.{PlanFields, pins_held, contents_pinned, piece_bytes, piece_of, is_pinned, is_pinned_in, IsAt}

-- From one pin to another nothing is lost: each frame that was counted on still is, with the same contents, and it is the same
-- table's.
pub record Keeps (t : Table) (before after : Option Held) : Type 0 where
  pub at : IsAt t after
  pub contents : (f : ℕ) → 0 < pins_in f (pins_held before) → contents_pinned f (pins_held after) ≡ contents_pinned f (pins_held before)

-- A plan counts on the frame of a held block besides, and has the block's bytes by its pin.
pub record CountsOn (t : Table) (p : Place) (before after : PlanFields) : Type 0 where
  pub keeps : Keeps t before.pin after.pin
  pub frames : (f : ℕ) → (0 < pins_in f (pins_held after.pin)) ↔ ((0 < pins_in f (pins_held before.pin)) ⊎ (p.frame ≡ f))
  pub bytes : block_bytes (contents_pinned p.frame (pins_held after.pin)) p.block ≡ contents_of (held_at t) p
  pub rest : after ≡ record before { pin = after.pin }

-- A plan has by its pin the bytes of the block that a slot refers to, where that is pinned.
pub record Locates (t : Table) (slot : Option Place) (before after : PlanFields) : Type 0 where
  pub keeps : Keeps t before.pin after.pin
  pub frames : (f : ℕ) → (0 < pins_in f (pins_held after.pin)) ↔ ((0 < pins_in f (pins_held before.pin)) ⊎ (is_pinned_in f (piece_of t slot) ≡ true))
  pub bytes : piece_bytes (pins_held after.pin) (piece_of t slot) ≡ slot_bytes (contents_of (held_at t)) slot
  pub idle : is_pinned (piece_of t slot) ≡ false → after.pin ≡ before.pin
  pub rest : after ≡ record before { pin = after.pin }

-- It has the piece of the slot besides, after the others.
pub record AddsPiece (t : Table) (slot : Option Place) (before after : PlanFields) : Type 0 where
  pub located : Locates t slot before (record before { pin = after.pin })
  pub rest : after ≡ record before { pieces = before.pieces ++ piece_of t slot ∷ []; pin = after.pin }
