-- What is used tells the same of checkpoints as what is held, where all that is held is used.
use Rattle.std.proofs.Common.{◌≡◌, ℕ, Option, Some, None, MatchOption, is_some, refl, sym, ap, ◌∙◌}
use Rattle.std.proofs.lemmas.Bool.{false≢true}
use Rattle.s4_types.specs.Pointer.{Place}
use Rattle.block_log.specs.Log.{Stored}
use Rattle.codec.specs.Checkpoint.{CheckpointFields}
use Rattle.codec.specs.Fields.{◌>>=◌}
use Rattle.checkpoint.specs.Held.{checkpoint_held, of_checkpoints, seen_of, places_named, HasItsBlocks}
use Rattle.checkpoint.proofs.OwnBlocks.{IsOwn, seen_own, has_some}
use Rattle.object_map.specs.declared.map.Row.{Row}
use Rattle.time_read.specs.Rows.{IsRow, inode_of, checkpoint_of, checkpoint_places_of}
use Rattle.row_changes.proofs.Places.{BlocksStay, CheckpointLaws}
use Rattle.image_objects.specs.Inodes.{checkpoint_used, checkpoint_places_used}
use Rattle.image_objects.specs.Saved.{HoldsUsed, saved_row}

same_blocks : CheckpointLaws → (used held : Place → Option Stored) (o : ℕ) (p : Place) (c : CheckpointFields) → HoldsUsed used held → checkpoint_held held o p ≡ Some c → BlocksStay held used o p
same_blocks laws used held o p c holds h q is =
    let own : IsOwn o (held q) = seen_own o (held q) (has_some (of_checkpoints o held q) (laws.held held o p (ap is_some h) q is)) in
    ap (seen_of o) (holds q own.block own.is ∙ sym own.is)

pub checkpoint_too : CheckpointLaws → (used held : Place → Option Stored) (o : ℕ) (p : Place) (c : CheckpointFields) → HoldsUsed used held → checkpoint_held held o p ≡ Some c → checkpoint_held used o p ≡ Some c
checkpoint_too laws used held o p c holds h = laws.told held used o p (same_blocks laws used held o p c holds h) ∙ h

checkpoint_at : CheckpointLaws → (used held : Place → Option Stored) (o : ℕ) (none : Type 0) (c : CheckpointFields) (q : Option Place) → HoldsUsed used held → MatchOption q none (λ p. checkpoint_held held o p ≡ Some c)
    → (q >>= checkpoint_held used o) ≡ (q >>= checkpoint_held held o)
checkpoint_at laws used held o none c None holds known = refl
checkpoint_at laws used held o none c (Some p) holds known = checkpoint_too laws used held o p c holds known ∙ sym known

places_at : CheckpointLaws → (used held : Place → Option Stored) (o : ℕ) (none : Type 0) (c : CheckpointFields) (q : Option Place) → HoldsUsed used held → MatchOption q none (λ p. checkpoint_held held o p ≡ Some c)
    → places_named (of_checkpoints o used) q ≡ places_named (of_checkpoints o held) q
places_at laws used held o none c None holds known = refl
places_at laws used held o none c (Some p) holds known = laws.places held used o p (same_blocks laws used held o p c holds known)

pub blocks_at : CheckpointLaws → (held : Place → Option Stored) (o : ℕ) (none : Type 0) (c : CheckpointFields) (q : Option Place) → MatchOption q none (λ p. checkpoint_held held o p ≡ Some c) → HasItsBlocks held o q
blocks_at laws held o none c None known = λ p is. absurd (false≢true is)
blocks_at laws held o none c (Some q) known = laws.held held o q (ap is_some known)

pub same_checkpoint : CheckpointLaws → (used held : Place → Option Stored) (o : ℕ) (row : Row) → HoldsUsed used held → IsRow held o row → checkpoint_used used (saved_row o row) ≡ checkpoint_of held o row
same_checkpoint laws used held o row holds stands =
    let c : CheckpointFields = record { object = o; moment = row.checkpoint_moment; inode = inode_of held o row row.checkpoint_moment } in
    checkpoint_at laws used held o (row.checkpoint_moment ≡ 0) c row.checkpoint holds stands.checkpoint

pub same_checkpoint_places : CheckpointLaws → (used held : Place → Option Stored) (o : ℕ) (row : Row) → HoldsUsed used held → IsRow held o row → checkpoint_places_used used (saved_row o row) ≡ checkpoint_places_of held o row
same_checkpoint_places laws used held o row holds stands =
    let c : CheckpointFields = record { object = o; moment = row.checkpoint_moment; inode = inode_of held o row row.checkpoint_moment } in
    places_at laws used held o (row.checkpoint_moment ≡ 0) c row.checkpoint holds stands.checkpoint
