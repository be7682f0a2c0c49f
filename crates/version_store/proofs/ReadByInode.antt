-- What is read of an object by its inode is read of the object.
use Rattle.std.proofs.Common.{◌≡◌, ◌≤◌, ℕ, length, true, Option, Some, inl, inr, sym, ap, ◌∙◌, arith}
use Rattle.std.specs.Prelude.{Result, Ok, Err, IfOk, IfErr}
use Rattle.std.proofs.lemmas.Bool.{cond-false}
use Rattle.s4_types.specs.Pointer.{Place}
use Rattle.s4_types.specs.declared.limits.TheConstants.{OBJECT_BLOCKS, OBJECT_BYTES}
use Rattle.s4_types.specs.declared.refusals.Refusal.{Refusal}
use Rattle.block_log.specs.Log.{Stored}
use Rattle.s4_types.specs.declared.versions.Version.TheVariants.{Absent, Live}
use Rattle.codec.specs.declared.inodes.Inode.{Inode}
use Rattle.inode.specs.Contents.{contents_of, bytes_of}
use Rattle.inode.specs.Tidiness.{PointersHeld}
use Rattle.time_read.specs.Within.{AgreesWithin, IsLedWithin}
use Rattle.time_read.specs.declared.block_ranges.BlockRange.{BlockRange}
use Rattle.version_store.specs.Store.{StoreFields, IsStore}
use Rattle.version_store.specs.Versions.{inode_in, version_by}
use Rattle.version_store.specs.Reading.{HasLive, IsUnread, IsUnreadBy}
use Rattle.version_store.proofs.Present.{can_read}

pub read_by_inode : {T : Type 0} (r : Result T Refusal) (s : StoreFields) (o t : ℕ) (i : Inode) (Reads : Inode → T → Type 0) → inode_in s o t ≡ Some i
    → IfOk r (λ read. (i.alive ≡ true) × Reads i read) → IfOk r (λ read. HasLive s o t (λ inode. Reads inode read))
read_by_inode (Ok read) s o t i Reads there is = record { inode = i; there = there; alive = is.0; holds = is.1 }
read_by_inode (Err e) s o t i Reads there is = tt

pub unread_by_inode : {T : Type 0} (r : Result T Refusal) (s : StoreFields) (o t : ℕ) (i : Inode) (Refuses : Inode → Refusal → Type 0) → inode_in s o t ≡ Some i
    → IfErr r (λ e. IsUnreadBy i (λ inode. Refuses inode e) e) → IfErr r (λ e. IsUnread s o t (λ inode. Refuses inode e) e)
unread_by_inode (Ok read) s o t i Refuses there is = tt
unread_by_inode (Err e) s o t i Refuses there (inl dead) =
    inl (dead.0, ap (version_by s.log.held) there ∙ cond-false i.alive (Live (bytes_of (contents_of s.log.held) i) i.attribute i.created i.changed) Absent dead.1)
unread_by_inode (Err e) s o t i Refuses there (inr live) = inr (record { inode = i; there = there; alive = live.0; holds = live.1 })

-- by an inode that agrees with another one within the blocks that are needed the same is read
pub agreeing_reads : {T : Type 0} (r : Result T Refusal) (range : BlockRange) (i j : Inode) (Reads : Inode → T → Type 0) → AgreesWithin range i j → ((read : T) → Reads i read → Reads j read)
    → IfOk r (λ read. (i.alive ≡ true) × Reads i read) → IfOk r (λ read. (j.alive ≡ true) × Reads j read)
agreeing_reads (Ok read) range i j Reads agrees same is = (sym agrees.alive ∙ is.0, same read is.1)
agreeing_reads (Err e) range i j Reads agrees same is = tt

pub agreeing_refuses : {T : Type 0} (r : Result T Refusal) (range : BlockRange) (i j : Inode) (Refuses : Inode → Refusal → Type 0) → AgreesWithin range i j → ((e : Refusal) → Refuses i e → Refuses j e)
    → IfErr r (λ e. IsUnreadBy i (λ inode. Refuses inode e) e) → IfErr r (λ e. IsUnreadBy j (λ inode. Refuses inode e) e)
agreeing_refuses (Ok read) range i j Refuses agrees same is = tt
agreeing_refuses (Err e) range i j Refuses agrees same (inl dead) = inl (dead.0, sym agrees.alive ∙ dead.1)
agreeing_refuses (Err e) range i j Refuses agrees same (inr live) = inr (sym agrees.alive ∙ live.0, same e live.1)

-- where the pointers of two inodes are held, so are those of one that has each from either
pub either_held : (held : Place → Option Stored) (o : ℕ) (range : BlockRange) (present past i : Inode) → IsLedWithin range present past i → PointersHeld held o past → PointersHeld held o present → PointersHeld held o i
either_held held o range present past i led by_past by_present = λ k p is. elim (led.pointers k) [
  | inl same ↦ by_past k p (sym same ∙ is)
  | inr same ↦ by_present k p (sym same ∙ is)
]

-- an inode that was led back for some blocks is within the limit, and has as many pointers as each
pub led_small : (s : StoreFields) (o t : ℕ) (range : BlockRange) (present past i : Inode) → IsStore s → inode_in s o t ≡ Some past → IsLedWithin range present past i → i.size ≤ OBJECT_BYTES
led_small s o t range present past i store there led = let small = (can_read s o t past store there).0.size in omega (arith, small, led.agrees.size)

pub led_count : (s : StoreFields) (o t : ℕ) (range : BlockRange) (present past i : Inode) → IsStore s → inode_in s o t ≡ Some past → IsLedWithin range present past i → length i.pointers ≡ OBJECT_BLOCKS
led_count s o t range present past i store there led = led.agrees.count ∙ (can_read s o t past store there).0.count
