-- What holds across rows is kept where one object's row is changed, where one is added above all others, and where none is.
use Rattle.std.proofs.Common.{◌≡◌, ℕ, zero, suc, ◌<◌, ◌≤◌, ◌==◌, true, false, List, [], ◌∷◌, ◌++◌, Option, Some, None, IsSome, refl, sym, ap, subst, ◌∙◌, inl, inr, arith}
use Rattle.std.specs.Prelude.{is_some}
use Rattle.std.specs.List.{Contains, AllByRecursion}
use Rattle.std.proofs.lemmas.Bool.{cases_Bool, cond-true, cond-false, eqb-true, ne_eqb, leb-true}
use Rattle.std.proofs.lemmas.List.Elements.{Contains-append_cases}
use Rattle.std.proofs.lemmas.Option.{same_Some}
use Rattle.s4_types.specs.Pointer.{Place}
use Rattle.block_log.specs.Log.{Stored}
use Rattle.codec.specs.Entry.{EntryFields}
use Rattle.undo_redo.specs.Runs.{AllBy, AllAt, entry_is_by}
use Rattle.object_map.specs.declared.map.Row.{Row}
use Rattle.object_map.specs.Rows.{row_of, with_row, fresh_row}
use Rattle.time_read.specs.Rows.{entries_of}
use Rattle.row_changes.proofs.Fresh.{no_entries}
use Rattle.version_store.specs.Across.{MakingsAscend, ShareNoMoment, ChainsShareNoMoment}
use Rattle.version_store.specs.Store.{StoreFields}
use Rattle.version_store.specs.Taking.{IsAboveAll}
use Rattle.version_store.specs.Replacing.{IsMomentOf}

-- both at once
pub record IsAcross (held : Place → Option Stored) (rows : List (ℕ × Row)) : Type 0 where
  pub ascending : MakingsAscend rows
  pub apart : ChainsShareNoMoment held rows

-- ---- entries

contained : (P : EntryFields → Type 0) (entries : List EntryFields) (e : EntryFields) → AllByRecursion P entries → Contains entries e → P e
contained P [] e all (n, below, at) = absurd (omega (arith, below))
contained P (f ∷ entries) e all (zero, below, at) = subst P at all.0
contained P (f ∷ entries) e all (suc n, below, at) = contained P entries e all.1 (n, omega (arith, below), at)

turned_round : (entries others : List EntryFields) → ShareNoMoment entries others → ShareNoMoment others entries
turned_round entries others apart e f there here same = apart f e here there (sym same)

-- entries of a later moment share none with those up to an earlier one
grown_apart : (old new others : List EntryFields) (m latest : ℕ) → AllAt m new → latest < m → AllBy latest others → ShareNoMoment old others → ShareNoMoment (old ++ new) others
grown_apart old new others m latest at later by apart e f there here same = elim (Contains-append_cases old new e there) [
  | inl was ↦ apart e f was here same
  | inr is ↦
      let new_at : e.moment ≡ m = contained (λ x. x.moment ≡ m) new e at is in
      let old_by : f.moment ≤ latest = leb-true f.moment latest (contained (λ x. entry_is_by latest x ≡ true) others f by here) in
      absurd (omega (arith, new_at, old_by, later, same))
]

both_same : (a b c d : List EntryFields) → a ≡ c → b ≡ d → ShareNoMoment c d → ShareNoMoment a b
both_same a b c d first second apart =
    subst (λ (es : List EntryFields). ShareNoMoment es b) (sym first) (subst (λ (es : List EntryFields). ShareNoMoment c es) (sym second) apart)

none_apart : (others : List EntryFields) → ShareNoMoment others []
none_apart others e f there (n, below, at) same = absurd (omega (arith, below))

-- ---- pairs of rows

-- what holds of each pair of rows, the second of the greater number
abbrev OfEachPair : (ℕ → ℕ → Row → Row → Type 0) → (ℕ → Option Row) → Type 0
OfEachPair P rows = (o q : ℕ) (r t : Row) → o < q → rows o ≡ Some r → rows q ≡ Some t → P o q r t

put_there : (rows after : ℕ → Option Row) (x q : ℕ) (next r : Row) → after q ≡ with_row rows x next q → after q ≡ Some r → (x == q) ≡ true → next ≡ r
put_there rows after x q next r put there is = same_Some next r (sym (cond-true (x == q) (Some next) (rows q) is) ∙ sym put ∙ there)

put_beside : (rows after : ℕ → Option Row) (x q : ℕ) (next r : Row) → after q ≡ with_row rows x next q → after q ≡ Some r → (x == q) ≡ false → rows q ≡ Some r
put_beside rows after x q next r put there other = sym (cond-false (x == q) (Some next) (rows q) other) ∙ sym put ∙ there

-- a pair of rows after one was put has that row first, or second, or not at all
pair_cases : (P : ℕ → ℕ → Row → Row → Type 0) (rows after : ℕ → Option Row) (x : ℕ) (next : Row) → ((q : ℕ) → after q ≡ with_row rows x next q)
    → ((q : ℕ) (r : Row) → q < x → rows q ≡ Some r → P q x r next) → ((q : ℕ) (r : Row) → x < q → rows q ≡ Some r → P x q next r)
    → ((o q : ℕ) (r t : Row) → (x == o) ≡ false → (x == q) ≡ false → o < q → rows o ≡ Some r → rows q ≡ Some t → P o q r t) → OfEachPair P after
pair_cases P rows after x next put second first neither o q r t less there here = elim (cases_Bool (x == o)) [
  | inl is ↦
      let same : x ≡ o = eqb-true x o is in
      let beside : (x == q) ≡ false = ne_eqb x q (λ (e : x ≡ q). omega (arith, same, e, less)) in
      subst (λ (n : ℕ). P n q r t) same
      (subst (λ (y : Row). P x q y t) (put_there rows after x o next r (put o) there is)
      (first q t (omega (arith, same, less)) (put_beside rows after x q next t (put q) here beside)))
  | inr other ↦ elim (cases_Bool (x == q)) [
    | inl is ↦
        let same : x ≡ q = eqb-true x q is in
        subst (λ (n : ℕ). P o n r t) same
        (subst (λ (y : Row). P o x r y) (put_there rows after x q next t (put q) here is)
        (second o r (omega (arith, same, less)) (put_beside rows after x o next r (put o) there other)))
    | inr beside ↦ neither o q r t other beside less (put_beside rows after x o next r (put o) there other) (put_beside rows after x q next t (put q) here beside)
  ]
]

-- the chain of each object that has a row, but one, is as it was
abbrev pub OthersStay : (Place → Option Stored) → (Place → Option Stored) → List (ℕ × Row) → ℕ → Type 0
OthersStay held later rows x = (q : ℕ) (r : Row) → (x == q) ≡ false → row_of rows q ≡ Some r → entries_of later q r ≡ entries_of held q r

-- ---- the steps

-- no row is changed, and no chain
pub kept_across : (rows : List (ℕ × Row)) (held later : Place → Option Stored) → ((q : ℕ) (r : Row) → row_of rows q ≡ Some r → entries_of later q r ≡ entries_of held q r) → IsAcross held rows → IsAcross later rows
kept_across rows held later same across = record {
  ascending = across.ascending;
  apart = λ o q r t less there here. both_same (entries_of later o r) (entries_of later q t) (entries_of held o r) (entries_of held q t) (same o r there) (same q t here) (across.apart o q r t less there here);
}

-- One object's row is changed: it keeps the making, and its chain has entries of a later moment besides, or none.
pub changed_across : (rows after : List (ℕ × Row)) (held later : Place → Option Stored) (x : ℕ) (row next : Row) (m latest : ℕ) (new : List EntryFields)
    → row_of rows x ≡ Some row → ((q : ℕ) → row_of after q ≡ with_row (row_of rows) x next q) → next.created ≡ row.created → entries_of later x next ≡ entries_of held x row ++ new → AllAt m new → latest < m
    → ((q : ℕ) (r : Row) → row_of rows q ≡ Some r → AllBy latest (entries_of held q r)) → OthersStay held later rows x → IsAcross held rows → IsAcross later after
changed_across rows after held later x row next m latest new there put made grows at later_is by stays across = record {
  ascending = pair_cases (λ o q r t. r.created < t.created) (row_of rows) (row_of after) x next put
      (λ q r less e. subst (λ (n : ℕ). r.created < n) (sym made) (across.ascending q x r row less e there))
      (λ q r less e. subst (λ (n : ℕ). n < r.created) (sym made) (across.ascending x q row r less there e))
      (λ o q r t other beside less e f. across.ascending o q r t less e f);
  apart = pair_cases (λ o q r t. ShareNoMoment (entries_of later o r) (entries_of later q t)) (row_of rows) (row_of after) x next put
      (λ q r less e.
      both_same (entries_of later q r) (entries_of later x next) (entries_of held q r) (entries_of held x row ++ new) (stays q r (ne_eqb x q (λ (same : x ≡ q). omega (arith, same, less))) e) grows
      (turned_round (entries_of held x row ++ new) (entries_of held q r)
      (grown_apart (entries_of held x row) new (entries_of held q r) m latest at later_is (by q r e) (turned_round (entries_of held q r) (entries_of held x row) (across.apart q x r row less e there)))))
      (λ q r less e.
      both_same (entries_of later x next) (entries_of later q r) (entries_of held x row ++ new) (entries_of held q r) grows (stays q r (ne_eqb x q (λ (same : x ≡ q). omega (arith, same, less))) e)
      (grown_apart (entries_of held x row) new (entries_of held q r) m latest at later_is (by q r e) (across.apart x q row r less there e)))
      (λ o q r t other beside less e f.
      both_same (entries_of later o r) (entries_of later q t) (entries_of held o r) (entries_of held q t) (stays o r other e) (stays q t beside f) (across.apart o q r t less e f));
}

-- entries of moments of some entries share none with those that these share none with
moments_apart : (old new others : List EntryFields) → ((e : EntryFields) → Contains new e → IsMomentOf old e.moment) → ShareNoMoment old others → ShareNoMoment new others
moments_apart old new others moments apart e f there here same =
    let (was, (is, at)) = moments e there in
    apart was f is here (at ∙ same)

-- One object's chain has entries of moments that it had, and no other chain is changed.
pub renewed_across : (rows after : List (ℕ × Row)) (held later : Place → Option Stored) (x : ℕ) (row next : Row) → row_of rows x ≡ Some row → ((q : ℕ) → row_of after q ≡ with_row (row_of rows) x next q) → next.created ≡ row.created
    → ((e : EntryFields) → Contains (entries_of later x next) e → IsMomentOf (entries_of held x row) e.moment)
    → ((q : ℕ) (r : Row) → (x == q) ≡ false → row_of rows q ≡ Some r → entries_of later q r ≡ entries_of held q r) → IsAcross held rows → IsAcross later after
renewed_across rows after held later x row next there put made moments stays across = record {
  ascending = pair_cases (λ o q r t. r.created < t.created) (row_of rows) (row_of after) x next put
      (λ q r less e. let under = across.ascending q x r row less e there in omega (arith, made, under))
      (λ q r less e. let over = across.ascending x q row r less there e in omega (arith, made, over))
      (λ o q r t other beside less e f. across.ascending o q r t less e f);
  apart = pair_cases (λ o q r t. ShareNoMoment (entries_of later o r) (entries_of later q t)) (row_of rows) (row_of after) x next put
      (λ q r less e.
      both_same (entries_of later q r) (entries_of later x next) (entries_of held q r) (entries_of later x next) (stays q r (ne_eqb x q (λ (same : x ≡ q). omega (arith, same, less))) e) refl
      (turned_round (entries_of later x next) (entries_of held q r)
      (moments_apart (entries_of held x row) (entries_of later x next) (entries_of held q r) moments (turned_round (entries_of held q r) (entries_of held x row) (across.apart q x r row less e there)))))
      (λ q r less e.
      both_same (entries_of later x next) (entries_of later q r) (entries_of later x next) (entries_of held q r) refl (stays q r (ne_eqb x q (λ (same : x ≡ q). omega (arith, same, less))) e)
      (moments_apart (entries_of held x row) (entries_of later x next) (entries_of held q r) moments (across.apart x q row r less there e)))
      (λ o q r t other beside less e f.
      both_same (entries_of later o r) (entries_of later q t) (entries_of held o r) (entries_of held q t) (stays o r other e) (stays q t beside f) (across.apart o q r t less e f));
}

-- Some rows are gone, and no other chain is changed.
pub fewer_across : (rows after : List (ℕ × Row)) (held later : Place → Option Stored) → ((q : ℕ) (r : Row) → row_of after q ≡ Some r → (row_of rows q ≡ Some r) × (entries_of later q r ≡ entries_of held q r)) → IsAcross held rows → IsAcross later after
fewer_across rows after held later was across = record {
  ascending = λ o q r t less e f. across.ascending o q r t less (was o r e).0 (was q t f).0;
  apart = λ o q r t less e f.
      both_same (entries_of later o r) (entries_of later q t) (entries_of held o r) (entries_of held q t) (was o r e).1 (was q t f).1 (across.apart o q r t less (was o r e).0 (was q t f).0);
}

-- The row of an object that is made later than all others, and whose number is above theirs, is added.
pub added_across : (s : StoreFields) (after : List (ℕ × Row)) (x m : ℕ) → IsAboveAll s x → ((q : ℕ) → row_of after q ≡ with_row (row_of s.rows) x (fresh_row m) q)
    → ((q : ℕ) (r : Row) → row_of s.rows q ≡ Some r → r.created < m) → IsAcross s.log.held s.rows → IsAcross s.log.held after
added_across s after x m above put before across =
    let below : (q : ℕ) (r : Row) → row_of s.rows q ≡ Some r → q < x = λ q r e. above q (ap is_some e) in
    record {
      ascending = pair_cases (λ o q r t. r.created < t.created) (row_of s.rows) (row_of after) x (fresh_row m) put
          (λ q r less e. before q r e)
          (λ q r less e. let under = below q r e in absurd (omega (arith, less, under)))
          (λ o q r t other beside less e f. across.ascending o q r t less e f);
      apart = pair_cases (λ o q r t. ShareNoMoment (entries_of s.log.held o r) (entries_of s.log.held q t)) (row_of s.rows) (row_of after) x (fresh_row m) put
          (λ q r less e. subst (λ (es : List EntryFields). ShareNoMoment (entries_of s.log.held q r) es) (sym (no_entries s.log.held x m)) (none_apart (entries_of s.log.held q r)))
          (λ q r less e. let under = below q r e in absurd (omega (arith, less, under)))
          (λ o q r t other beside less e f. across.apart o q r t less e f);
    }

-- ---- numbers

none_where : (row : Option Row) → (IsSome row → ⊥) → row ≡ None
none_where None none = refl
none_where (Some row) none = absurd (none refl)

-- an object above all that have rows has none
pub above_has_none : (s : StoreFields) (o : ℕ) → IsAboveAll s o → row_of s.rows o ≡ None
above_has_none s o above = none_where (row_of s.rows o) (λ there. let less : o < o = above o there in omega (arith, less))
