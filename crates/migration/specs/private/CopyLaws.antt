-- What the copy of an object rests on. No public clause cites this file.
use Rattle.std.specs.Prelude.{◌≡◌, ℕ, List, map, is_some, Option}
use Rattle.s4_types.specs.Pointer.{Place}
use Rattle.block_log.specs.Log.{Stored}
use Rattle.block_log.specs.Laws.{OnePlaceHasOneName, PlacesTakenAddUp}
use Rattle.codec.specs.declared.inodes.Inode.{Inode}
use Rattle.checkpoint.specs.Held.{checkpoint_blocks}
use Rattle.object_map.specs.declared.map.Row.{Row}
use Rattle.time_read.specs.Rows.{IsRow}
use Rattle.time_read.specs.Orderly.{IsOrderly}
use Rattle.chain_rewriting.specs.Apart.{Passes}
use Rattle.chain_rewriting.specs.MappingLaws.{AMappedChainShowsMappedInodes, APointerIsMapped, MappedEntriesStayInOrder, AMappedChainTellsInOrder, AMappedChainShowsTheSame, AMappedChainTakesAsManyBytes, MappedEntriesTakeAsManyBytes}
use Rattle.chain_rewriting.specs.Places.{WhatIsToldIsListed, AChainPointsToWhatItTells}
use Rattle.row_changes.specs.Laws.{ItsFirstInodeIsMapped}
use Rattle.row_changes.specs.Recent.{IsBy}
use Rattle.migration.specs.declared.moves.Move.{Move}
use Rattle.migration.specs.Moves.{moved_by, is_moved}

-- The laws that a copied row rests on, where its data went by these moves.
pub record CopyLaws (moves : List Move) : Type 0 where
  pub one : OnePlaceHasOneName
  pub add_up : PlacesTakenAddUp
  pub listed : WhatIsToldIsListed
  pub points : AChainPointsToWhatItTells
  pub begins : ItsFirstInodeIsMapped
  pub shown : AMappedChainShowsMappedInodes (moved_by moves)
  pub pointers : APointerIsMapped (moved_by moves)
  pub in_order : MappedEntriesStayInOrder (moved_by moves)
  pub tells : AMappedChainTellsInOrder (moved_by moves)
  pub same : AMappedChainShowsTheSame (Passes (is_moved moves)) (moved_by moves)
  pub bytes : AMappedChainTakesAsManyBytes (moved_by moves)
  pub each : MappedEntriesTakeAsManyBytes (moved_by moves)
  pub holes : (i j : Inode) → map is_some i.pointers ≡ map is_some j.pointers → checkpoint_blocks i ≡ checkpoint_blocks j
  pub by : (held : Place → Option Stored) (o : ℕ) (row : Row) (latest : ℕ) → IsRow held o row → IsOrderly held o row latest → IsBy held o row latest
