-- What an inode of an image's row points to the row refers to: such a row alone is a store's, over all that is used.
use Rattle.std.proofs.Common.{◌≡◌, ℕ, [], ◌∷◌, Option, Some, refl, sym, ap, ◌∙◌, subst}
use Rattle.std.specs.List.{Contains}
use Rattle.std.proofs.lemmas.Option.{same_Some}
use Rattle.s4_types.specs.Pointer.{Place}
use Rattle.block_log.specs.Log.{Stored}
use Rattle.block_log.specs.declared.kinds.BlockKind.TheVariants.{Data}
use Rattle.codec.specs.declared.inodes.Inode.{Inode}
use Rattle.object_map.specs.declared.map.Row.{Row}
use Rattle.time_read.specs.Rows.{inode_of}
use Rattle.version_store.specs.Store.{StoreFields, IsNamed, pointers_of}
use Rattle.version_store.specs.Versions.{inode_by, inode_in}
use Rattle.version_store.specs.Laws.{InodesPointToWhatRowsName}
use Rattle.image_objects.specs.declared.rows.ImageRow.{ImageRow}
use Rattle.image_objects.specs.VersionChain.{kept_row}
use Rattle.image_objects.specs.Objects.{inode_used}
use Rattle.image_objects.specs.Laws.{InodesUsedPointToWhatRowsLeadTo}
use Rattle.image_objects.proofs.Kept.{found_here}

-- over the used blocks themselves, the row that a drive keeps tells what the image's row tells
pub inode_is_used : (used : Place → Option Stored) (row : ImageRow) (stamp t : ℕ) → inode_of used row.object (kept_row used row stamp) t ≡ inode_used used row t
unfolding inode_of
inode_is_used used row stamp t = refl

pub pointed_is_led_to : InodesPointToWhatRowsName → InodesUsedPointToWhatRowsLeadTo
pointed_is_led_to law used row t n p at =
    let o = row.object in
    let kept = kept_row used row 0 in
    let s : StoreFields = record { rows = (o, kept) ∷ []; log = record { held = used; ahead = []; spent = 0; named = λ p. 0 }; latest = 0 } in
    let here = found_here [] o o kept refl in
    let now : inode_in s o t ≡ Some (inode_used used row t) = ap (inode_by used o t) here ∙ ap (λ (i : Inode). Some i) (inode_is_used used row 0 t) in
    let named : IsNamed s o Data p = law s o t n (inode_used used row t) p now at in
    let same : named.row ≡ kept = same_Some named.row kept (sym named.there ∙ here) in
    subst (λ (r : Row). Contains (pointers_of used o r) (Some p)) same named.names
