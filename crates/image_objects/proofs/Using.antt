-- What is held is used.
use Rattle.std.proofs.Common.{◌≡◌, ℕ, List, Option, Some, ap, ◌∙◌}
use Rattle.s4_types.specs.Pointer.{Place}
use Rattle.block_log.specs.Log.{Stored, of_kind}
use Rattle.block_log.specs.declared.kinds.BlockKind.{BlockKind}
use Rattle.image_objects.specs.Saved.{HoldsUsed}
use Rattle.image_objects.proofs.HeldByName.{Seen, seen, seen_here}

-- a block that is held as one of a kind and of an object is used as that
pub used_too : (used held : Place → Option Stored) (k : BlockKind) (o : ℕ) (p : Place) (bytes : List ℕ) → HoldsUsed used held → of_kind k o held p ≡ Some bytes → of_kind k o used p ≡ Some bytes
used_too used held k o p bytes holds h =
    let s : Seen k o (held p) bytes = seen k o (held p) bytes h in
    seen_here k o (used p) s.block (holds p s.block s.there) s.kind s.object ∙ ap (λ (b : List ℕ). Some b) s.same
