-- The places of a checkpoint's blocks are those of its parts, and after them that of its first block.
use Rattle.std.proofs.Common.{◌≡◌, List, [], ◌∷◌, ◌++◌, length, Option, Some, None, IfSome, refl, sym, ap, ◌∙◌, append_assoc, arith}
use Rattle.std.specs.Prelude.{slice_index_or}
use Rattle.std.specs.Option.{option_to_list}
use Rattle.s4_types.specs.Pointer.{Place}
use Rattle.s4_types.specs.declared.limits.TheConstants.{CHECKPOINT_PARTS}
use Rattle.block_log.specs.Log.{Stored}
use Rattle.codec.specs.Fields.{Reads}
use Rattle.codec.specs.FirstBlock.{FirstNumbers}
use Rattle.codec.specs.declared.first_blocks.FirstBlock.{FirstBlock}
use Rattle.checkpoint.specs.Held.{of_checkpoints, first_in, part_place, places_named, places_in as checkpoint_places_in}
use Rattle.checkpoint.proofs.Dropping.{reads_is}
use Rattle.journal_chain.specs.Chain.{BlockView}
use Rattle.image_objects.specs.declared.rows.ImageRow.{ImageRow}
use Rattle.image_objects.specs.Inodes.{checkpoint_places_used}
use Rattle.image_objects.specs.private.Places.{places_in, places_of_parts}

-- the places of a checkpoint with this first block
abbrev with_first : Option FirstBlock → Place → List Place
with_first f p = option_to_list (part_place f 0) ++ (option_to_list (part_place f 1) ++ (option_to_list (part_place f 2) ++ p ∷ []))

three_places : (a b c : Option Place) (p : Place) → places_in (a ∷ b ∷ c ∷ []) ++ p ∷ [] ≡ option_to_list a ++ (option_to_list b ++ (option_to_list c ++ p ∷ []))
three_places None None None p = refl
three_places None None (Some c) p = refl
three_places None (Some b) None p = refl
three_places None (Some b) (Some c) p = refl
three_places (Some a) None None p = refl
three_places (Some a) None (Some c) p = refl
three_places (Some a) (Some b) None p = refl
three_places (Some a) (Some b) (Some c) p = refl

parts_first : (parts : List (Option Place)) (p : Place) → length parts ≡ CHECKPOINT_PARTS
    → places_in parts ++ p ∷ [] ≡ option_to_list (slice_index_or parts 0 None) ++ (option_to_list (slice_index_or parts 1 None) ++ (option_to_list (slice_index_or parts 2 None) ++ p ∷ []))
parts_first [] p count = absurd (omega (arith, count))
parts_first (a ∷ []) p count = absurd (omega (arith, count))
parts_first (a ∷ b ∷ []) p count = absurd (omega (arith, count))
parts_first (a ∷ b ∷ c ∷ []) p count = three_places a b c p
parts_first (a ∷ b ∷ c ∷ d ∷ parts) p count = absurd (omega (arith, count))

first_last : (f : Option FirstBlock) (p : Place) → IfSome f FirstNumbers → places_of_parts f ++ p ∷ [] ≡ with_first f p
first_last None p numbers = refl
first_last (Some f) p numbers = parts_first f.parts p numbers.count_parts

places_are : (view : BlockView) (p : Place) (f : Option FirstBlock) → Reads (λ first. first) f (first_in view p) → IfSome f FirstNumbers → places_of_parts f ++ p ∷ [] ≡ checkpoint_places_in view p
unfolding checkpoint_places_in
places_are view p f reads numbers = first_last f p numbers ∙ ap (λ (found : Option FirstBlock). with_first found p) (sym (reads_is f (first_in view p) reads))

-- what adding the parts' places and then the first block's makes of a list
pub places_pushed : (used : Place → Option Stored) (row : ImageRow) (p : Place) (f : Option FirstBlock) (before between items : List Place) → row.checkpoint ≡ Some p → Reads (λ first. first) f (first_in (of_checkpoints row.object used) p) → IfSome f FirstNumbers
    → between ≡ before ++ places_of_parts f → items ≡ between ++ p ∷ [] → items ≡ before ++ checkpoint_places_used used row
places_pushed used row p f before between items is reads numbers parts first =
    let view : BlockView = of_checkpoints row.object used in
    first
    ∙ ap (λ (l : List Place). l ++ p ∷ []) parts
    ∙ append_assoc before (places_of_parts f) (p ∷ [])
    ∙ ap (λ (l : List Place). before ++ l) (places_are view p f reads numbers ∙ sym (ap (places_named view) is))
