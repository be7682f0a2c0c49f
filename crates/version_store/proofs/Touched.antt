-- Outside of the pointers that a change may replace, those of the next inode are the present ones.
use Rattle.std.proofs.Common.{◌≡◌, ℕ, ◌+◌, ◌-◌, ◌*◌, ◌/◌, ◌<◌, ◌≤◌, ◌==◌, ◌&&◌, ◌⊎◌, leb, ltb, false, cond, List, inl, inr, None, sym, ap, ◌∙◌, arith}
use Rattle.std.specs.Prelude.{slice_get}
use Rattle.std.proofs.lemmas.Bool.{cond-false, and_left, and_right, lt-leb, le-ltb, ne_eqb}
use Rattle.s4_types.specs.Pointer.{Place}
use Rattle.s4_types.specs.declared.limits.TheConstants.{OBJECT_BLOCKS}
use Rattle.s4_types.specs.declared.changes.Change.TheVariants.{Create}
use Rattle.codec.specs.Checkpoint.{pointer_at}
use Rattle.codec.specs.declared.inodes.Inode.{Inode}
use Rattle.undo_redo.specs.Runs.{blank}
use Rattle.undo_redo.specs.Between.{AreSameOutside}
use Rattle.inode.specs.Touched.{touched_count, is_touched, is_cut}
use Rattle.inode.specs.Changed.{Written, Truncated}
use Rattle.version_store.specs.Store.{StoreFields}
use Rattle.version_store.specs.private.Turning.{CanTake}
use Rattle.version_store.specs.private.Below.{FreshInode, BlankHoles}
use Rattle.version_store.proofs.Across.{above_has_none}
use Rattle.version_store.proofs.Kind.{blank_subject}

-- a change without data replaces none
pub same_everywhere : (i j : Inode) → ((k : ℕ) → pointer_at i k ≡ pointer_at j k) → AreSameOutside 0 0 i j
same_everywhere i j same k lt out = same k

pub same_created : FreshInode → BlankHoles → (s : StoreFields) (o m : ℕ) (attribute : List ℕ) (i j : Inode) → CanTake s (Create o attribute) m i → ((k : ℕ) → pointer_at j k ≡ None) → AreSameOutside 0 0 i j
same_created fresh holes s o m attribute i j can none k lt out =
    let is : i ≡ blank m = can.begins ∙ blank_subject fresh s o m (above_has_none s o can.takes.ready) in
    ap (λ (x : Inode). pointer_at x k) is ∙ holes m k ∙ sym (none k)

not_touched : (offset len k : ℕ) → (k < offset / 512) ⊎ (offset / 512 + touched_count offset len ≤ k) → is_touched offset len k ≡ false
not_touched offset len k (inl low) = and_left (leb (offset / 512) k) (ltb k (offset / 512 + touched_count offset len)) (lt-leb (offset / 512) k low)
not_touched offset len k (inr high) = and_right (leb (offset / 512) k) (ltb k (offset / 512 + touched_count offset len)) (le-ltb k (offset / 512 + touched_count offset len) high)

pub same_unwritten : (ahead : List Place) (m offset len : ℕ) (i j : Inode) → Written ahead m offset len i j → AreSameOutside (offset / 512) (offset / 512 + touched_count offset len) i j
same_unwritten ahead m offset len i j written k lt out =
    sym (written.pointers k ∙ cond-false (is_touched offset len k) (slice_get ahead (k - offset / 512)) (pointer_at i k) (not_touched offset len k out))

pub same_uncut : (ahead : List Place) (m size : ℕ) (i j : Inode) → Truncated ahead m size i j → AreSameOutside (size / 512) OBJECT_BLOCKS i j
same_uncut ahead m size i j cut k lt (inl low) =
    let below : leb size (512 * k) ≡ false = lt-leb size (512 * k) (omega (arith, low)) in
    let other : (is_cut i size && k == size / 512) ≡ false = and_right (is_cut i size) (k == size / 512) (ne_eqb k (size / 512) (λ (e : k ≡ size / 512). omega (arith, e, low))) in
    sym (cut.pointers k
    ∙ cond-false (leb size (512 * k)) None (cond (is_cut i size && k == size / 512) (slice_get ahead 0) (pointer_at i k)) below
    ∙ cond-false (is_cut i size && k == size / 512) (slice_get ahead 0) (pointer_at i k) other)
same_uncut ahead m size i j cut k lt (inr high) = absurd (omega (arith, lt, high))
