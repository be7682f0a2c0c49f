-- When what was planned of a move is still there, and what a move takes at most.
use Rattle.std.specs.Prelude.{◌≡◌, ℕ, ◌≤◌, List, [], ◌∷◌, map, Some}
use Rattle.block_log.specs.declared.kinds.BlockKind.{BlockKind}
use Rattle.block_log.specs.Log.{of_kind}
use Rattle.object_map.specs.declared.map.Row.{Row}
use Rattle.object_map.specs.Rows.{row_of}
use Rattle.segment_word.specs.FrameRule.{AllRemembered}
use Rattle.segment_word.specs.Handles.{pin_of}
use Rattle.segment_table.specs.Table.{Table, held_at}
use Rattle.segment_table.specs.Room.{pointers_in}
use Rattle.segment_table.specs.Used.{HoldsUsedBlocks}
use Rattle.version_store.specs.declared.copies.CopiedBlock.{CopiedBlock}
use Rattle.version_store.specs.Store.{IsStore}
use Rattle.drive.specs.Fields.{DriveFields, store_of}
use Rattle.segment_copier.specs.Moves.{data_in}
use Rattle.segment_copier.specs.Choosing.{HoldsIn}
use Rattle.segment_copier.specs.Commits.{AreStillThere, blocks_moved}
use Rattle.segment_copier.specs.Gathering.{most_to_empty}

-- An object held something in a frame that was sealed, and the copies are of its data blocks there. Where all of its blocks are as
-- they were, and what a pin of the frame counted on is remembered, the copies are of its data blocks there still.
abbrev pub WhatWasPlannedIsStillThere : Type 0
WhatWasPlannedIsStillThere = (t later : Table) (f o : ℕ) (copies : List CopiedBlock) → (pointers_in t o f ≡ [] → ⊥) → map (λ c. c.place) copies ≡ data_in t o f
    → ((kind : BlockKind) → of_kind kind o (held_at later) ≡ of_kind kind o (held_at t))
    → AllRemembered later.seat.frames (pin_of t.seat.frames f ∷ []) → HoldsUsedBlocks later → AreStillThere later f o copies

-- What emptying a frame may take is no less than what the move of an object out of it takes, which holds a block there.
abbrev pub EmptyingTakesTheMove : Type 0
EmptyingTakesTheMove = (d : DriveFields) (f o : ℕ) (row : Row) → IsStore (store_of d) → row_of d.store.rows o ≡ Some row → HoldsIn d.store.table f o
    → blocks_moved d f o row ≤ most_to_empty d f
