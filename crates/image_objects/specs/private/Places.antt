-- The places that a row of an image names, in the order in which they are found.
use Rattle.std.specs.Prelude.{List, [], ◌++◌, Option, Some, None}
use Rattle.std.specs.List.{flat_map}
use Rattle.std.specs.Option.{option_to_list}
use Rattle.s4_types.specs.Pointer.{Place}
use Rattle.block_log.specs.Log.{Stored, of_kind}
use Rattle.block_log.specs.declared.kinds.BlockKind.TheVariants.{Journal}
use Rattle.codec.specs.declared.first_blocks.FirstBlock.{FirstBlock}
use Rattle.journal_chain.specs.Chain.{chain_places}
use Rattle.image_objects.specs.declared.rows.ImageRow.{ImageRow}
use Rattle.image_objects.specs.Inodes.{checkpoint_places_used}
use Rattle.image_objects.specs.Objects.{pointers_used}

-- the places that slots refer to, in order
abbrev pub places_in : List (Option Place) → List Place
places_in slots = flat_map option_to_list slots

-- the parts of a checkpoint, by its first block, if there is one
abbrev pub places_of_parts : Option FirstBlock → List Place
places_of_parts None = []
places_of_parts (Some first) = places_in first.parts

-- the blocks of a row's chain, the newest first
abbrev pub places_of_chain : (Place → Option Stored) → ImageRow → List Place
places_of_chain used row = chain_places (of_kind Journal row.object used) row.object row.head

-- the row's chain, its checkpoint, and all that its pointers refer to
abbrev pub places_named : (Place → Option Stored) → ImageRow → List Place
places_named used row = places_of_chain used row ++ checkpoint_places_used used row ++ places_in (pointers_used used row)
