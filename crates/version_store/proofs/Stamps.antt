-- A step of a store that leaves an object's stamp leaves its blocks.
use Rattle.std.proofs.Common.{◌≡◌, ◌⊎◌, inl, inr, ℕ, ◌+◌, ◌==◌, ◌&&◌, false, List, Option, Some, None, refl, sym, ap, ◌∙◌, arith}
use Rattle.std.proofs.lemmas.Bool.{cases_Bool, cond-true, cond-false, eqb-true}
use Rattle.std.proofs.lemmas.Option.{none-some, same_Some}
use std.Path.{fun_ext}
use Rattle.block_log.specs.Log.{of_kind, same_kind}
use Rattle.block_log.specs.declared.kinds.BlockKind.{BlockKind}
use Rattle.block_log.specs.declared.kinds.BlockKind.TheVariants.{Journal, Checkpoint, Data, Pointers}
use Rattle.checkpoint.specs.Held.{is_checkpoint_kind}
use Rattle.codec.specs.declared.inodes.Inode.{Inode}
use Rattle.codec.specs.Entry.{EntryFields}
use Rattle.object_map.specs.declared.map.Row.{Row}
use Rattle.object_map.specs.Rows.{row_of, with_row}
use Rattle.version_store.specs.declared.copies.CopiedBlock.{CopiedBlock}
use Rattle.version_store.specs.Store.{StoreFields}
use Rattle.version_store.specs.Costs.{row_or_fresh}
use Rattle.version_store.specs.Taking.{RowChanges, Appends}
use Rattle.version_store.specs.Checkpointing.{IsCheckpointed}
use Rattle.version_store.specs.Replacing.{IsRemoved, IsReplaced}
use Rattle.version_store.specs.Relocating.{IsRelocated}
use Rattle.version_store.specs.Stamps.{HoldsTheSame, StampsTell}
use Rattle.version_store.proofs.Steps.{row_beside}

-- a row of the later store is the one that was put, of this object, or another object's as it was
one_put : (s later : StoreFields) (o q : ℕ) (put row next : Row) → ((p : ℕ) → row_of later.rows p ≡ with_row (row_of s.rows) o put p) → ((old : Row) → row_of s.rows o ≡ Some old → put.stamp ≡ old.stamp + 1)
    → row_of s.rows q ≡ Some row → row_of later.rows q ≡ Some next → ((o == q) ≡ false × (next ≡ row)) ⊎ (next.stamp ≡ row.stamp + 1)
one_put s later o q put row next puts rises was is = elim (cases_Bool (o == q)) [
  | inl here ↦
      let same : put ≡ next = same_Some put next (sym (puts q ∙ cond-true (o == q) (Some put) (row_of s.rows q) here) ∙ is) in
      let old : row_of s.rows o ≡ Some row = ap (row_of s.rows) (eqb-true o q here) ∙ was in
      inr (sym (ap (λ (r : Row). r.stamp) same) ∙ rises row old)
  | inr other ↦ inl (other, same_Some next row (sym is ∙ puts q ∙ row_beside (row_of s.rows) o q put other ∙ was))
]

-- one row was put, with the next stamp, and the blocks of other objects are as they were
stepped : (s later : StoreFields) (o : ℕ) (put : Row) → ((p : ℕ) → row_of later.rows p ≡ with_row (row_of s.rows) o put p) → ((old : Row) → row_of s.rows o ≡ Some old → put.stamp ≡ old.stamp + 1)
    → ((q : ℕ) → (o == q) ≡ false → HoldsTheSame q s.log.held later.log.held) → StampsTell s later
stepped s later o put puts rises others = record {
  rise = λ q row next was is. elim (one_put s later o q put row next puts rises was is) [
    | inl both ↦ (let stamp : next.stamp ≡ row.stamp = ap (λ (r : Row). r.stamp) both.1 in omega (arith, stamp))
    | inr more ↦ omega (arith, more)
  ];
  same = λ q row next was is stamp. elim (one_put s later o q put row next puts rises was is) [
    | inl both ↦ others q both.0
    | inr more ↦ absurd (omega (arith, more, stamp))
  ];
}

-- the object that a change is of, and others
no_data : (kind : BlockKind) (o q : ℕ) → (o == q) ≡ false → (same_kind kind Data && o == q) ≡ false
no_data Journal o q other = refl
no_data Checkpoint o q other = refl
no_data Data o q other = other
no_data Pointers o q other = refl

no_journal : (kind : BlockKind) (o q : ℕ) → (o == q) ≡ false → (same_kind Journal kind && o == q) ≡ false
no_journal Journal o q other = other
no_journal Checkpoint o q other = refl
no_journal Data o q other = refl
no_journal Pointers o q other = refl

no_checkpoint : (kind : BlockKind) (o q : ℕ) → (o == q) ≡ false → (is_checkpoint_kind kind && o == q) ≡ false
no_checkpoint Journal o q other = refl
no_checkpoint Checkpoint o q other = other
no_checkpoint Data o q other = refl
no_checkpoint Pointers o q other = other

pub changed : (s later : StoreFields) (o m count : ℕ) (blocks : List (List ℕ)) → RowChanges s o m later.rows → Appends o blocks count s.log later.log → StampsTell s later
changed s later o m count blocks rows appends = stepped s later o rows.next rows.put
    (λ old was. ap (λ (r : Row). r.stamp) rows.rest ∙ ap (λ (r : Option Row). (row_or_fresh m r).stamp + 1) was)
    (λ q other kind. appends.others kind q (no_journal kind o q other) ∙ fun_ext (λ p. appends.growth.others kind q p (no_data kind o q other)))

pub checkpointed : (s later : StoreFields) (o : ℕ) (row : Row) → row_of s.rows o ≡ Some row → IsCheckpointed s o row later → StampsTell s later
checkpointed s later o row there is = stepped s later o _ is.put
    (λ old was. ap (λ (r : Row). r.stamp + 1) (same_Some row old (sym there ∙ was)))
    (λ q other kind. is.others kind q (no_checkpoint kind o q other))

pub replaced : (s later : StoreFields) (o : ℕ) (row : Row) (present : Inode) (entries : List EntryFields) → row_of s.rows o ≡ Some row → IsReplaced s o row present entries later → StampsTell s later
replaced s later o row present entries there is = stepped s later o is.next is.put
    (λ old was. ap (λ (r : Row). r.stamp) is.rest ∙ ap (λ (r : Row). r.stamp + 1) (same_Some row old (sym there ∙ was)))
    (λ q other kind. is.others kind q other)

pub relocated : (s later : StoreFields) (o : ℕ) (row : Row) (copies : List CopiedBlock) → row_of s.rows o ≡ Some row → IsRelocated s o row copies later → StampsTell s later
relocated s later o row copies there is = stepped s later o is.next is.put
    (λ old was. ap (λ (r : Row). r.stamp) is.rest ∙ ap (λ (r : Row). r.stamp + 1) (same_Some row old (sym there ∙ was)))
    (λ q other kind. is.others kind q other)

-- an object that is left has its row, and an object without one has none
left : (s later : StoreFields) (o q : ℕ) (row next : Row) → IsRemoved s o later → row_of s.rows q ≡ Some row → row_of later.rows q ≡ Some next → ((o == q) ≡ false) × (next ≡ row)
left s later o q row next is was there = elim (cases_Bool (o == q)) [
  | inl here ↦ absurd (none-some next (sym (is.rows q ∙ cond-true (o == q) None (row_of s.rows q) here) ∙ there))
  | inr other ↦ (other, same_Some next row (sym there ∙ is.rows q ∙ cond-false (o == q) None (row_of s.rows q) other ∙ was))
]

pub removed : (s later : StoreFields) (o : ℕ) → IsRemoved s o later → StampsTell s later
removed s later o is = record {
  rise = λ q row next was there. (let stamp : next.stamp ≡ row.stamp = ap (λ (r : Row). r.stamp) (left s later o q row next is was there).1 in omega (arith, stamp));
  same = λ q row next was there stamp kind. is.others kind q (left s later o q row next is was there).0;
}

pub kept : (s later : StoreFields) → later.rows ≡ s.rows → later.log.held ≡ s.log.held → StampsTell s later
kept s later rows held = record {
  rise = λ q row next was is. (let stamp : next.stamp ≡ row.stamp = ap (λ (r : Row). r.stamp) (same_Some next row (sym is ∙ ap (λ (l : List (ℕ × Row)). row_of l q) rows ∙ was)) in omega (arith, stamp));
  same = λ q row next was is stamp kind. ap (of_kind kind q) held;
}
