-- A mapped checkpoint keeps the rules, since a hole stays a hole.
use Rattle.std.proofs.Common.{◌≡◌, ℕ, ◌-◌, Bool, ◌&&◌, ◌||◌, ltb, leb, List, [], ◌∷◌, map, Option, Some, None, refl, ap, ◌∙◌}
use Rattle.std.specs.Prelude.{is_none}
use Rattle.s4_types.specs.Pointer.{Place}
use Rattle.s4_types.specs.declared.limits.TheConstants.{OBJECT_BYTES}
use Rattle.codec.specs.Checkpoint.{holes_past, checkpoint_rules}
use Rattle.chain_rewriting.specs.Mapping.{mapped_slot}
use Rattle.chain_rewriting.specs.MappingLaws.{AMappedCheckpointKeepsTheRules}

hole_mapped : (f : Place → Place) (slot : Option Place) → is_none (mapped_slot f slot) ≡ is_none slot
hole_mapped f None = refl
hole_mapped f (Some p) = refl

holes_mapped : (f : Place → Place) (size : ℕ) (pointers : List (Option Place)) → holes_past size (map (mapped_slot f) pointers) ≡ holes_past size pointers
unfolding holes_past
holes_mapped f size [] = refl
holes_mapped f size (p ∷ pointers) =
    ap (λ (b : Bool). (ltb 0 size || b) && holes_past (size - 512) (map (mapped_slot f) pointers)) (hole_mapped f p)
    ∙ ap (λ (b : Bool). (ltb 0 size || is_none p) && b) (holes_mapped f (size - 512) pointers)

pub rules_mapped : (f : Place → Place) → AMappedCheckpointKeepsTheRules f
unfolding checkpoint_rules
rules_mapped f c =
    ap (λ (b : Bool). leb 1 c.object && (leb 1 c.moment && (leb 1 c.inode.created && (leb c.inode.size OBJECT_BYTES && b)))) (holes_mapped f c.inode.size c.inode.pointers)
