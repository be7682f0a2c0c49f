-- An object of an image of an earlier version can be copied.
use Rattle.std.proofs.Common.{◌≡◌, ℕ, List, ◌++◌, Option, Some, None, option_map, refl, sym, subst}
use Rattle.std.specs.List.{All}
use Rattle.s4_types.specs.Pointer.{Place}
use Rattle.block_log.specs.Log.{Stored}
use Rattle.codec.specs.Checkpoint.{CheckpointFields}
use Rattle.codec.specs.declared.inodes.Inode.{Inode}
use Rattle.codec.specs.declared.versions.ImageVersion.{ImageVersion}
use Rattle.undo_redo.specs.Runs.{inode_after}
use Rattle.inode.specs.Contents.{contents_of}
use Rattle.inode.specs.Tidiness.{Tidy}
use Rattle.time_read.specs.Orderly.{IsFromTo, IsOrderlyChain}
use Rattle.version_store.specs.Store.{IsLed, pointers_kept, sides_told}
use Rattle.image_objects.specs.declared.rows.ImageRow.{ImageRow}
use Rattle.image_objects.specs.Inodes.{checkpoint_used}
use Rattle.image_objects.specs.Versions.{ObjectStandsBy, entries_used_by}
use Rattle.image_objects.specs.Writing.{AnObjectOfAVersionCanBeWritten, inode_kept_in}
use Rattle.migration.specs.Places.{pointers_in}
use Rattle.migration.specs.Copied.{CanCopy, IsInOrder}

same_pointers : (c : Option CheckpointFields) → pointers_in (option_map (λ k. k.inode) c) ≡ pointers_kept c
same_pointers None = refl
same_pointers (Some c) = refl

-- Of images of this version.
module _ (v : ImageVersion) where
  pub can_copy : AnObjectOfAVersionCanBeWritten → (used : Place → Option Stored) (row : ImageRow) (clock : ℕ) → ObjectStandsBy v used row clock → CanCopy used row (inode_kept_in used row) (entries_used_by v used row)
  can_copy law used row clock stands =
      let can = law v used row clock stands in
      let entries = entries_used_by v used row in
      record {
        write = can.can;
        led = subst (λ (x : List (Option Place)). All (IsLed used row.object) (x ++ sides_told entries)) (sym (same_pointers (checkpoint_used used row))) stands.led;
        tidy = λ t. subst (λ (i : Inode). Tidy (contents_of used) (inode_after i entries t)) (sym can.first) (stands.tidy t);
      }

  pub in_order_by : AnObjectOfAVersionCanBeWritten → (used : Place → Option Stored) (row : ImageRow) (clock : ℕ) → IsFromTo 1 clock row.created → ObjectStandsBy v used row clock → IsInOrder row (inode_kept_in used row) (entries_used_by v used row) clock
  in_order_by law used row clock made stands =
      let can = law v used row clock stands in
      record {
        made = made;
        chain = subst (λ (i : Inode). IsOrderlyChain row.created clock i (entries_used_by v used row)) (sym can.first) can.order;
        beginning = can.beginning;
      }
