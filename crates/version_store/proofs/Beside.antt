-- What is beside the rows follows them: the present inode of each object, and the index of its entries.
use Rattle.std.proofs.Common.{◌≡◌, ℕ, ◌+◌, ◌==◌, ◌++◌, false, cond, List, [], Option, Some, None, refl, sym, ap, subst, ◌∙◌, inl, inr}
use Rattle.std.specs.Prelude.{option_map}
use Rattle.std.proofs.lemmas.Bool.{cases_Bool, cond-true, cond-false, eqb-true}
use Rattle.std.proofs.lemmas.Option.{same_Some}
use Rattle.s4_types.specs.Pointer.{Place}
use Rattle.block_log.specs.Log.{Log, Stored, of_kind}
use Rattle.block_log.specs.declared.kinds.BlockKind.TheVariants.{Journal}
use Rattle.codec.specs.declared.inodes.Inode.{Inode}
use Rattle.codec.specs.Entry.{EntryFields}
use Rattle.journal_chain.specs.Chain.{OnlyJournalChanged}
use Rattle.inode.specs.Growth.{GrowsBy}
use Rattle.time_read.specs.Undoings.{Undoing}
use Rattle.checkpoint.specs.declared.cache.CacheKey.{CacheKey}
use Rattle.object_map.specs.declared.map.Row.{Row}
use Rattle.object_map.specs.Objects.{value_of, with_value, without_value, PutsAt}
use Rattle.object_map.specs.Rows.{row_of, with_row, fresh_row}
use Rattle.object_map.specs.Sides.{sides_after}
use Rattle.time_read.specs.Rows.{entries_of, inode_of, last_inode}
use Rattle.time_read.specs.declared.presents.Present.{Present}
use Rattle.version_store.specs.Store.{StoreFields, IsStore}
use Rattle.version_store.specs.Versions.{entries_of_row, entries_of_object, inode_by, inode_in}
use Rattle.time_read.specs.Presents.{IsIndexOf, KeepsIndexOf}
use Rattle.version_store.specs.private.Below.{LastIsCurrent}
use Rattle.version_store.specs.private.Beside.{inode_beside, IsBeside}
use Rattle.version_store.specs.Checkpointing.{last_entry, IsCheckpointed}
use Rattle.version_store.specs.Replacing.{OtherObjectsStay, IsRemoved}
use Rattle.time_read.specs.Caches.{AddsTrue}
use Rattle.time_read.proofs.Staying.{same_entries}
use Rattle.row_changes.proofs.Fresh.{no_entries}
use Rattle.version_store.proofs.Cached.{added_true}
use Rattle.version_store.proofs.Frames.{growth_stays}
use Rattle.version_store.proofs.Steps.{row_here, row_beside}
use Rattle.version_store.proofs.Changed.{entries_of_row_stay}

-- ---- what a map keeps

-- an object has its inode where it has its value
pub inode_put : (values after : List (ℕ × Present)) (o : ℕ) (v : Present) → PutsAt values o v after → (q : ℕ) → inode_beside after q ≡ with_value (inode_beside values) o v.inode q
inode_put values after o v put q = elim (cases_Bool (o == q)) [
  | inl is ↦ ap (option_map (λ p. p.inode)) (put q ∙ cond-true (o == q) (Some v) (value_of values q) is) ∙ sym (cond-true (o == q) (Some v.inode) (inode_beside values q) is)
  | inr other ↦ ap (option_map (λ p. p.inode)) (put q ∙ cond-false (o == q) (Some v) (value_of values q) other) ∙ sym (cond-false (o == q) (Some v.inode) (inode_beside values q) other)
]

-- where an object's value is gone, so is its inode
pub gone_inode : (values after : List (ℕ × Present)) (o : ℕ) → ((q : ℕ) → value_of after q ≡ without_value (value_of values) o q) → (q : ℕ) → inode_beside after q ≡ cond (o == q) None (inode_beside values q)
gone_inode values after o gone q = elim (cases_Bool (o == q)) [
  | inl is ↦ ap (option_map (λ p. p.inode)) (gone q ∙ cond-true (o == q) None (value_of values q) is) ∙ sym (cond-true (o == q) None (inode_beside values q) is)
  | inr other ↦ ap (option_map (λ p. p.inode)) (gone q ∙ cond-false (o == q) None (value_of values q) other) ∙ sym (cond-false (o == q) None (inode_beside values q) other)
]

-- ---- entries

-- an object has the entries that it had where its row and its journal are as they were
pub entries_stay : (s later : StoreFields) (q : ℕ) → row_of later.rows q ≡ row_of s.rows q → of_kind Journal q later.log.held ≡ of_kind Journal q s.log.held → entries_of_object later q ≡ entries_of_object s q
entries_stay s later q rows same = ap (entries_of_row later.log.held q) rows ∙ entries_of_row_stay s.log.held later.log.held q (row_of s.rows q) same

-- an object whose row is known has its entries
pub entries_here : (s : StoreFields) (o : ℕ) (row : Row) → row_of s.rows o ≡ Some row → entries_of_object s o ≡ entries_of s.log.held o row
entries_here s o row there = ap (entries_of_row s.log.held o) there

-- a checkpoint leaves an object's entries, and those of all others
pub all_stay : (s later : StoreFields) (o : ℕ) (row : Row) → row_of s.rows o ≡ Some row → IsCheckpointed s o row later → (q : ℕ) → entries_of_object later q ≡ entries_of_object s q
all_stay s later o row there made q =
    let next : Row = record row { checkpoint = Some made.place; checkpoint_moment = last_entry s.log.held o row; sides = sides_after row; stamp = row.stamp + 1 } in
    elim (cases_Bool (o == q)) [
      | inl is ↦ subst (λ (n : ℕ). entries_of_object later n ≡ entries_of_object s n) (eqb-true o q is)
          (entries_here later o next (made.put o ∙ row_here (row_of s.rows) o next)
          ∙ same_entries s.log.held later.log.held o row (made.others Journal o refl)
          ∙ sym (entries_here s o row there))
      | inr other ↦ entries_stay s later q (made.put q ∙ row_beside (row_of s.rows) o q next other) (made.others Journal q refl)
    ]

-- ---- indexes

-- beside each row the index tells the row's entries
abbrev pub Indexed : List (ℕ × Present) → StoreFields → Type 0
Indexed values s = (q : ℕ) → KeepsIndexOf (value_of values q) (entries_of_object s q)

-- where an object has no value, or the one that it had, and the entries that it had
pub stays_indexed : (values after : List (ℕ × Present)) (s later : StoreFields) (q : ℕ) → value_of after q ≡ value_of values q → entries_of_object later q ≡ entries_of_object s q → Indexed values s → KeepsIndexOf (value_of after q) (entries_of_object later q)
stays_indexed values after s later q same entries indexed =
    subst (λ (p : Option Present). KeepsIndexOf p (entries_of_object later q)) (sym same)
    (subst (λ (es : List EntryFields). KeepsIndexOf (value_of values q) es) (sym entries) (indexed q))

-- one object's index follows its entries, and those of all others are as they were
pub put_indexed : (s later : StoreFields) (o : ℕ) (v : Present) (values after : List (ℕ × Present)) → IsIndexOf v.index (entries_of_object later o)
    → ((q : ℕ) → (o == q) ≡ false → entries_of_object later q ≡ entries_of_object s q) → PutsAt values o v after → Indexed values s → Indexed after later
put_indexed s later o v values after here beside put indexed q = elim (cases_Bool (o == q)) [
  | inl is ↦
      subst (λ (p : Option Present). KeepsIndexOf p (entries_of_object later q)) (sym (put q ∙ cond-true (o == q) (Some v) (value_of values q) is))
      (subst (λ (n : ℕ). IsIndexOf v.index (entries_of_object later n)) (eqb-true o q is) here)
  | inr other ↦ stays_indexed values after s later q (put q ∙ cond-false (o == q) (Some v) (value_of values q) other) (beside q other) indexed
]

-- one object has no value any more
pub gone_indexed : (s later : StoreFields) (o : ℕ) (values after : List (ℕ × Present)) → ((q : ℕ) → (o == q) ≡ false → entries_of_object later q ≡ entries_of_object s q)
    → ((q : ℕ) → value_of after q ≡ without_value (value_of values) o q) → Indexed values s → Indexed after later
gone_indexed s later o values after beside gone indexed q = elim (cases_Bool (o == q)) [
  | inl is ↦ subst (λ (p : Option Present). KeepsIndexOf p (entries_of_object later q)) (sym (gone q ∙ cond-true (o == q) None (value_of values q) is)) tt
  | inr other ↦ stays_indexed values after s later q (gone q ∙ cond-false (o == q) None (value_of values q) other) (beside q other) indexed
]

-- all values and all entries are as they were
pub same_indexed : (s later : StoreFields) (values after : List (ℕ × Present)) → ((q : ℕ) → value_of after q ≡ value_of values q) → ((q : ℕ) → entries_of_object later q ≡ entries_of_object s q) → Indexed values s → Indexed after later
same_indexed s later values after same entries indexed q = stays_indexed values after s later q (same q) (entries q) indexed

-- an object that turned has its old entries and those of the change, and its index tells these too
pub turned_indexed : (s later : StoreFields) (o stamp : ℕ) (row next : Row) (more : List EntryFields) (v : Present) (values after : List (ℕ × Present)) → row_of s.rows o ≡ Some row
    → ((q : ℕ) → row_of later.rows q ≡ with_row (row_of s.rows) o (record next { stamp = stamp }) q) → OnlyJournalChanged o s.log.held later.log.held
    → entries_of later.log.held o next ≡ entries_of s.log.held o row ++ more
    → ((entries : List EntryFields) → KeepsIndexOf (value_of values o) entries → IsIndexOf v.index (entries ++ more))
    → PutsAt values o v after → Indexed values s → Indexed after later
turned_indexed s later o stamp row next more v values after there rows only entries told put indexed =
    let now : entries_of_object later o ≡ entries_of_object s o ++ more =
    entries_here later o (record next { stamp = stamp }) (rows o ∙ row_here (row_of s.rows) o (record next { stamp = stamp }))
    ∙ entries ∙ ap (λ (es : List EntryFields). es ++ more) (sym (entries_here s o row there)) in
    put_indexed s later o v values after (subst (IsIndexOf v.index) (sym now) (told (entries_of_object s o) (indexed o)))
    (λ q other. entries_stay s later q (rows q ∙ row_beside (row_of s.rows) o q (record next { stamp = stamp }) other) (only Journal q other)) put indexed

-- an object that was replaced has the entries of which its index tells
pub replaced_indexed : (s later : StoreFields) (o : ℕ) (next : Row) (new : List EntryFields) (v : Present) (values after : List (ℕ × Present))
    → ((q : ℕ) → row_of later.rows q ≡ with_row (row_of s.rows) o next q) → OtherObjectsStay o s.log.held later.log.held
    → entries_of later.log.held o next ≡ new → IsIndexOf v.index new → PutsAt values o v after → Indexed values s → Indexed after later
replaced_indexed s later o next new v values after rows others entries told put indexed =
    let now : entries_of_object later o ≡ new = entries_here later o next (rows o ∙ row_here (row_of s.rows) o next) ∙ entries in
    put_indexed s later o v values after (subst (IsIndexOf v.index) (sym now) told)
    (λ q other. entries_stay s later q (rows q ∙ row_beside (row_of s.rows) o q next other) (others Journal q other)) put indexed

-- an object that was removed has none
pub removed_indexed : (s later : StoreFields) (o : ℕ) (values after : List (ℕ × Present)) → IsRemoved s o later
    → ((q : ℕ) → value_of after q ≡ without_value (value_of values) o q) → Indexed values s → Indexed after later
removed_indexed s later o values after removed gone indexed =
    gone_indexed s later o values after
    (λ q other. entries_stay s later q (removed.rows q ∙ cond-false (o == q) None (row_of s.rows q) other) (removed.others Journal q other)) gone indexed

-- an object that was added has no entries, and its index tells none
pub added_indexed : (s : StoreFields) (rows : List (ℕ × Row)) (o m : ℕ) (v : Present) (values after : List (ℕ × Present)) → v.index ≡ Some []
    → ((q : ℕ) → row_of rows q ≡ with_row (row_of s.rows) o (fresh_row m) q) → PutsAt values o v after → Indexed values s → Indexed after (record s { rows = rows })
added_indexed s rows o m v values after none rows_put put indexed =
    let later : StoreFields = record s { rows = rows } in
    let now : entries_of_object later o ≡ [] = entries_here later o (fresh_row m) (rows_put o ∙ row_here (row_of s.rows) o (fresh_row m)) ∙ no_entries s.log.held o m in
    put_indexed s later o v values after
    (subst (IsIndexOf v.index) (sym now) (subst (λ (x : Option (List Undoing)). IsIndexOf x []) (sym none) refl))
    (λ q other. entries_stay s later q (rows_put q ∙ row_beside (row_of s.rows) o q (fresh_row m) other) refl) put indexed

-- a checkpoint leaves all entries
pub checkpointed_indexed : (s later : StoreFields) (o : ℕ) (row : Row) (values after : List (ℕ × Present)) → row_of s.rows o ≡ Some row → IsCheckpointed s o row later
    → ((q : ℕ) → value_of after q ≡ value_of values q) → Indexed values s → Indexed after later
checkpointed_indexed s later o row values after there made same indexed = same_indexed s later values after same (all_stay s later o row there made) indexed

-- data that is appended leaves all entries
pub grown_indexed : (s : StoreFields) (log : Log) (object : ℕ) (blocks : List (List ℕ)) (values : List (ℕ × Present)) → GrowsBy object blocks s.log log → Indexed values s → Indexed values (record s { log = log })
grown_indexed s log object blocks values grows indexed =
    same_indexed s (record s { log = log }) values values (λ q. refl) (λ q. entries_stay s (record s { log = log }) q refl (growth_stays object blocks s.log log q grows).journal) indexed

-- ---- what is found of an object

pub inode_kept : (values : List (ℕ × Present)) (pairs : List (CacheKey × Inode)) (s : StoreFields) (o : ℕ) (k : Present) → Some k ≡ value_of values o → IsBeside values pairs s → Some k.inode ≡ inode_in s o s.latest
inode_kept values pairs s o k is beside = ap (option_map (λ p. p.inode)) is ∙ beside.inodes o

pub index_kept : (values : List (ℕ × Present)) (pairs : List (CacheKey × Inode)) (s : StoreFields) (o : ℕ) (k : Present) → Some k ≡ value_of values o → IsBeside values pairs s → IsIndexOf k.index (entries_of_object s o)
index_kept values pairs s o k is beside = subst (λ (p : Option Present). KeepsIndexOf p (entries_of_object s o)) (sym is) (beside.indexes o)

-- inodes of an object's checkpoint were kept, and the log is as it was
pub beside_added : (values : List (ℕ × Present)) (pairs after : List (CacheKey × Inode)) (s : StoreFields) (log : Log) (o : ℕ) (row : Row) → log ≡ s.log → row_of s.rows o ≡ Some row → AddsTrue s.log.held o row pairs after
    → IsBeside values pairs s → IsBeside values after (record s { log = log })
beside_added values pairs after s log o row same there adds beside =
    subst (λ (l : Log). IsBeside values after (record s { log = l })) (sym same) (record {
      inodes = beside.inodes;
      indexes = beside.indexes;
      cached = added_true s.log.held s.rows o row pairs after there adds beside.cached;
    })

-- ---- an inode at a moment by the index

-- the present inode is the one after all entries
pub present_last : LastIsCurrent → (s : StoreFields) (o : ℕ) (row : Row) (present : Inode) → IsStore s → row_of s.rows o ≡ Some row → inode_in s o s.latest ≡ Some present → present ≡ last_inode s.log.held o row
present_last last s o row present store there is =
    same_Some present (inode_of s.log.held o row s.latest) (sym is ∙ ap (inode_by s.log.held o s.latest) there)
    ∙ last s.log.held o s.latest row (store.objects o row there).by.entries

-- an object without an inode at one moment has none at any
none_by : (held : Place → Option Stored) (o t u : ℕ) (row : Option Row) → inode_by held o t row ≡ None → inode_by held o u row ≡ None
none_by held o t u None none = refl
none_by held o t u (Some row) none = cc

pub none_at : (s : StoreFields) (o t u : ℕ) → inode_in s o t ≡ None → inode_in s o u ≡ None
none_at s o t u none = none_by s.log.held o t u (row_of s.rows o) none
