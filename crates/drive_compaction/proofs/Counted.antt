-- What is written of objects.
use Rattle.std.proofs.Common.{◌≡◌, inl, inr, ℕ, ◌+◌, ◌<◌, ◌≤◌, ◌==◌, Bool, if◌then◌else◌, List, [], Option, Some, None, refl, sym, ap, ◌∙◌, arith}
use Rattle.std.specs.Prelude.{unwrap_or}
use Rattle.std.proofs.lemmas.Bool.{cases_lt, eq-eqb, ne_eqb}
use Rattle.codec.specs.Entry.{EntryFields}
use Rattle.journal_chain.specs.Push.{whole_blocks}
use Rattle.object_map.specs.declared.map.Row.{Row}
use Rattle.object_map.specs.Rows.{row_of}
use Rattle.object_map.specs.Objects.{MapOf, value_of, IsNextAbove, Puts}
use Rattle.row_changes.specs.Moving.{kept_blocks, inode_kept, row_blocks}
use Rattle.time_read.specs.Rows.{entries_of}
use Rattle.version_store.specs.Store.{StoreFields, IsStore}
use Rattle.version_store.specs.Versions.{entries_of_object, entries_of_row}
use Rattle.drive.proofs.Opening.{no_row_of_0}
use Rattle.drive_compaction.specs.Choosing.{blocks_of_row, blocks_rewritten, count_in, AreCounts}

-- ---- one object

-- the journal of an object that has a row
journal_is : (s : StoreFields) (o : ℕ) (row : Row) (entries : List EntryFields) → row_of s.rows o ≡ Some row → entries ≡ entries_of_object s o → whole_blocks entries ≡ whole_blocks (entries_of s.log.held o row)
journal_is s o row entries has is = ap whole_blocks (is ∙ ap (entries_of_row s.log.held o) has)

-- its checkpoint and its journal were counted
pub both_counted : (s : StoreFields) (o : ℕ) (row : Row) (entries : List EntryFields) (checkpoint journal : ℕ) → row_of s.rows o ≡ Some row → entries ≡ entries_of_object s o
    → checkpoint ≡ kept_blocks (inode_kept s.log.held o row) → journal ≡ whole_blocks entries → checkpoint + journal ≡ blocks_rewritten s o
both_counted s o row entries checkpoint journal has is own whole =
    let its : blocks_rewritten s o ≡ row_blocks s.log.held o row = ap (blocks_of_row s o) has in
    let same = journal_is s o row entries has is in
    omega (arith, its, same, own, whole)

-- ---- object after object

-- All objects up to this one were counted, and no later one.
pub record CountsUpTo (s : StoreFields) (m : MapOf ℕ) (object : ℕ) : Type 0 where
  pub below : (o : ℕ) → o ≤ object → count_in m.values o ≡ blocks_rewritten s o
  pub values : (o : ℕ) → object < o → value_of m.values o ≡ None
  pub rows : (o : ℕ) → object < o → row_of m.rows o ≡ None

-- no object has the number 0
pub has_none_0 : (s : StoreFields) → IsStore s → row_of s.rows 0 ≡ None
has_none_0 s store = no_row_of_0 s (row_of s.rows 0) refl store

no_row : (s : StoreFields) (o : ℕ) → row_of s.rows o ≡ None → blocks_rewritten s o ≡ 0
no_row s o none = ap (blocks_of_row s o) none

no_count : (values : List (ℕ × ℕ)) (o : ℕ) → value_of values o ≡ None → count_in values o ≡ 0
no_count values o none = ap (λ (v : Option ℕ). unwrap_or v 0) none

pub counted_none : (s : StoreFields) (m : MapOf ℕ) (object : ℕ) → IsStore s → m.rows ≡ [] → m.values ≡ [] → object ≡ 0 → CountsUpTo s m object
counted_none s m object store rows values start =
    let nothing : (o : ℕ) → value_of m.values o ≡ None = (λ o. ap (λ (l : List (ℕ × ℕ)). value_of l o) values) in
    record {
      below = λ o low. (let zero_is : o ≡ 0 = omega (arith, low, start) in
          no_count m.values o (nothing o) ∙ sym (ap (blocks_rewritten s) zero_is ∙ no_row s 0 (has_none_0 s store)));
      values = λ o above. nothing o;
      rows = λ o above. ap (λ (l : List (ℕ × Row)). row_of l o) rows;
    }

put_there : (values : List (ℕ × ℕ)) (later : Option ℕ) (next o n : ℕ) → later ≡ (if next == o then Some n else value_of values o) → next ≡ o → later ≡ Some n
put_there values later next o n is same = is ∙ ap (λ (b : Bool). if b then Some n else value_of values o) (eq-eqb next o same)

put_elsewhere : {V : Type 0} (values : List (ℕ × V)) (later : Option V) (next o : ℕ) (n : V) → later ≡ (if next == o then Some n else value_of values o) → (next ≡ o → ⊥) → later ≡ value_of values o
put_elsewhere values later next o n is other = is ∙ ap (λ (b : Bool). if b then Some n else value_of values o) (ne_eqb next o other)

pub counted_more : (s : StoreFields) (m later : MapOf ℕ) (object next n : ℕ) (row : Row) → CountsUpTo s m object → IsNextAbove s.rows object next → n ≡ blocks_rewritten s next → Puts m next row n later → CountsUpTo s later next
counted_more s m later object next n row before above number puts =
    let higher : object < next = above.above in
    record {
      below = λ o low. elim (cases_lt o next) [
        | inl less ↦ (let stays : value_of later.values o ≡ value_of m.values o = put_elsewhere m.values (value_of later.values o) next o n (puts.values o) (λ e. omega (arith, e, less)) in
            ap (λ (v : Option ℕ). unwrap_or v 0) stays ∙ (elim (cases_lt object o) [
              | inl between ↦ no_count m.values o (before.values o between) ∙ sym (no_row s o (above.least o between less))
              | inr under ↦ before.below o under
            ]))
        | inr more ↦ (let same : next ≡ o = omega (arith, low, more) in
            ap (λ (v : Option ℕ). unwrap_or v 0) (put_there m.values (value_of later.values o) next o n (puts.values o) same) ∙ number ∙ ap (blocks_rewritten s) same)
      ];
      values = λ o up. put_elsewhere m.values (value_of later.values o) next o n (puts.values o) (λ e. omega (arith, e, up)) ∙ before.values o (omega (arith, up, higher));
      rows = λ o up. put_elsewhere m.rows (row_of later.rows o) next o row (puts.rows o) (λ e. omega (arith, e, up)) ∙ before.rows o (omega (arith, up, higher));
    }

pub counted_all : (s : StoreFields) (m : MapOf ℕ) (object : ℕ) → CountsUpTo s m object → ((q : ℕ) → object < q → row_of s.rows q ≡ None) → AreCounts s m.values
counted_all s m object counted none o = elim (cases_lt object o) [
  | inl above ↦ no_count m.values o (counted.values o above) ∙ sym (no_row s o (none o above))
  | inr under ↦ counted.below o under
]
