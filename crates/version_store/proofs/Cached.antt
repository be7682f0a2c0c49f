-- What a store keeps of inodes of checkpoints stays true of its rows: a row that is put has a higher stamp than the one before, so
-- what was kept under that one says nothing any more, and the checkpoints of all other objects are as they were.
use Rattle.std.proofs.Common.{◌≡◌, ℕ, ◌<◌, ◌==◌, false, List, [], Option, Some, sym, ap, subst, ◌∙◌, inl, inr, arith}
use Rattle.std.specs.Prelude.{option_map}
use Rattle.std.specs.List.{Contains}
use Rattle.std.proofs.lemmas.Bool.{cases_Bool, cond-true, eqb-true}
use Rattle.std.proofs.lemmas.Option.{same_Some}
use Rattle.s4_types.specs.Pointer.{Place}
use Rattle.block_log.specs.Log.{Stored}
use Rattle.codec.specs.declared.inodes.Inode.{Inode}
use Rattle.codec.specs.Checkpoint.{CheckpointFields}
use Rattle.checkpoint.specs.Held.{of_checkpoints}
use Rattle.checkpoint.specs.declared.cache.CacheKey.{CacheKey}
use Rattle.object_map.specs.declared.map.Row.{Row}
use Rattle.object_map.specs.Rows.{row_of, with_row}
use Rattle.time_read.specs.Caches.{key_of, HasInode, IsTrueOf, AddsTrue}
use Rattle.row_changes.proofs.Pushing.{same_checkpoint}
use Rattle.version_store.specs.private.Beside.{IsTrueCache}
use Rattle.version_store.proofs.Steps.{row_beside}

-- the inode of a row's checkpoint is the same where the object's checkpoints are
pub same_inode : (held later : Place → Option Stored) (o : ℕ) (row : Row) (i : Inode) → of_checkpoints o later ≡ of_checkpoints o held → HasInode held o row i → HasInode later o row i
same_inode held later o row i same has = ap (option_map (λ (c : CheckpointFields). c.inode)) (same_checkpoint held later o row.checkpoint same) ∙ has

-- all rows and all checkpoints are as they were
pub stays_true : (held later : Place → Option Stored) (rows : List (ℕ × Row)) (pairs : List (CacheKey × Inode)) → ((q : ℕ) → of_checkpoints q later ≡ of_checkpoints q held)
    → IsTrueCache held rows pairs → IsTrueCache later rows pairs
stays_true held later rows pairs same cached e among =
    let pair = cached e among in
    record { row = pair.row; there = pair.there; upto = pair.upto; told = λ stamp. same_inode held later e.0.object pair.row e.1 (same e.0.object) (pair.told stamp) }

-- one object has a row of a higher stamp than the one before, if there was one
pub put_true : (held later : Place → Option Stored) (rows after : List (ℕ × Row)) (o : ℕ) (next : Row) (pairs : List (CacheKey × Inode)) → ((old : Row) → row_of rows o ≡ Some old → old.stamp < next.stamp)
    → ((q : ℕ) → row_of after q ≡ with_row (row_of rows) o next q) → ((q : ℕ) → (o == q) ≡ false → of_checkpoints q later ≡ of_checkpoints q held)
    → IsTrueCache held rows pairs → IsTrueCache later after pairs
put_true held later rows after o next pairs rises puts others cached e among =
    let pair = cached e among in
    let q = e.0.object in
    elim (cases_Bool (o == q)) [
      | inl here ↦
          let more = rises pair.row (ap (row_of rows) (eqb-true o q here) ∙ pair.there) in
          let upto = pair.upto in
          record {
            row = next;
            there = puts q ∙ cond-true (o == q) (Some next) (row_of rows q) here;
            upto = omega (arith, more, upto);
            told = λ stamp. absurd (omega (arith, more, upto, stamp));
          }
      | inr other ↦ record {
        row = pair.row;
        there = puts q ∙ row_beside (row_of rows) o q next other ∙ pair.there;
        upto = pair.upto;
        told = λ stamp. same_inode held later q pair.row e.1 (others q other) (pair.told stamp);
      }
    ]

-- no inode is kept
pub none_true : (held : Place → Option Stored) (rows : List (ℕ × Row)) (pairs : List (CacheKey × Inode)) → pairs ≡ [] → IsTrueCache held rows pairs
none_true held rows pairs none e among =
    let (n, below, at) = subst (λ (es : List (CacheKey × Inode)). Contains es e) none among in
    absurd (omega (arith, below))

-- what is kept under a row's key is the inode of its checkpoint
pub true_of : (held : Place → Option Stored) (rows : List (ℕ × Row)) (o : ℕ) (row : Row) (pairs : List (CacheKey × Inode)) → row_of rows o ≡ Some row → IsTrueCache held rows pairs → IsTrueOf pairs held o row
true_of held rows o row pairs there cached i among =
    let pair = cached (key_of o row, i) among in
    let is : pair.row ≡ row = same_Some pair.row row (sym pair.there ∙ there) in
    subst (λ (r : Row). HasInode held o r i) is (pair.told (ap (λ (r : Row). r.stamp) (sym is)))

-- and such an inode may be added
pub added_true : (held : Place → Option Stored) (rows : List (ℕ × Row)) (o : ℕ) (row : Row) (before after : List (CacheKey × Inode)) → row_of rows o ≡ Some row → AddsTrue held o row before after
    → IsTrueCache held rows before → IsTrueCache held rows after
added_true held rows o row before after there adds cached e among = elim (adds e among) [
  | inl was ↦ cached e was
  | inr new ↦
      let object : e.0.object ≡ o = ap (λ (k : CacheKey). k.object) new.0 in
      let stamp : e.0.stamp ≡ row.stamp = ap (λ (k : CacheKey). k.stamp) new.0 in
      record {
        row = row;
        there = ap (row_of rows) object ∙ there;
        upto = omega (arith, stamp);
        told = λ same. subst (λ (n : ℕ). HasInode held n row e.1) (sym object) new.1;
      }
]
