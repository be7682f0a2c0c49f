-- The rows of what is kept, and the values beside them, are found as what is kept is.
use Rattle.std.proofs.Common.{◌≡◌, ℕ, ◌==◌, ◌<◌, ◌+◌, ◌^◌, if◌then◌else◌, cond, Bool, true, false, List, [], ◌∷◌, ◌++◌, map, Option, Some, None, IsSome, IfSome, option_map, Result, Ok, Err, OnOk, refl, sym, ap, subst, ◌∙◌, inl, inr, arith}
use Rattle.std.proofs.lemmas.Bool.Decides.{nat_tests}
use Rattle.std.proofs.lemmas.Bool.{cases_Bool, cond-true, cond-false, eqb-true}
use Rattle.std.proofs.lemmas.Option.{none-some}
use Rattle.std.proofs.lemmas.List.{map-append}
use Rattle.std.proofs.lemmas.List.Elements.{All-nil, All-cons, All-head, All-tail}
use Rattle.std.proofs.lemmas.Map.Made.{lookup-map_values}
use Rattle.std.specs.Global.{Box}
use Rattle.std.specs.BTreeMap.{is_at, insert_entry}
use Rattle.std.specs.Ordering.{nat_cmp, match_ordering}
use Rattle.std.specs.declared.cmp.Ordering.TheVariants.{Greater}
use Rattle.object_map.specs.declared.map.Row.{Row}
use Rattle.object_map.specs.declared.map.Kept.{Kept}
use Rattle.object_map.specs.Objects.{value_of, with_value, without_value, IsNextAbove, MapOf, parts_of, unboxed, PutsAt, IsKeptOf, AreBelow, Puts, PutsBehind, PutsRow, Removes}

pub on_ok : {T E : Type 0} {P Q : Type 0} → (P → Q) → (result : Result T E) → OnOk result P → OnOk result Q
on_ok f (Ok x) is = f is
on_ok f (Err e) is = is

greater : (k e : ℕ) → e < k → nat_cmp k e ≡ Greater
greater k e above = grind (arith, nat_tests)

-- a key is found where it is the same number
same_key : (k q : ℕ) → is_at (nat_cmp k) q ≡ (k == q)
same_key k q = elim (cases_Bool (k == q)) [
  | inl is ↦ let at : is_at (nat_cmp k) q ≡ true = grind (arith, nat_tests) in at ∙ sym is
  | inr other ↦ let at : is_at (nat_cmp k) q ≡ false = grind (arith, nat_tests) in at ∙ sym other
]

-- where nothing is found, nothing is asked of it
pub if_none : {X : Type 0} (P : X → Type 0) (found : Option X) → found ≡ None → IfSome found P
if_none P None none = tt
if_none P (Some x) none = absurd (none-some x (sym none))

-- an entry whose key is above all others goes to the end
pub inserted_behind : {X : Type 0} (es : List (ℕ × X)) (k : ℕ) (x : X) → AreBelow es k → insert_entry nat_cmp es k x ≡ es ++ (k, x) ∷ []
inserted_behind [] k x below = refl
inserted_behind {X} (e ∷ es) k x below =
    let P : ℕ × X → Type 0 = λ f. f.0 < k in
    ap (λ o. match_ordering o ((k, x) ∷ e ∷ es) ((e.0, x) ∷ es) (e ∷ insert_entry nat_cmp es k x)) (greater k e.0 (All-head P e es below))
    ∙ ap (λ fs. e ∷ fs) (inserted_behind es k x (All-tail P e es below))

module _ {X Y : Type 0} (g : X → Y) where
  mapped_if : (b : Bool) (x : X) (found : Option X) → option_map g (if b then Some x else found) ≡ (if b then Some (g x) else option_map g found)
  mapped_if true x found = refl
  mapped_if false x found = refl

  mapped_without : (b : Bool) (found : Option X) → option_map g (if b then None else found) ≡ (if b then None else option_map g found)
  mapped_without true found = refl
  mapped_without false found = refl

  none_mapped : (found : Option X) → option_map g found ≡ None → found ≡ None
  none_mapped None e = refl
  none_mapped (Some x) e = absurd (none-some (g x) (sym e))

  some_mapped : (found : Option X) → IsSome found → IsSome (option_map g found)
  some_mapped None some = some
  some_mapped (Some x) some = some

module _ {X Y : Type 0} (g : X → Y) where
  -- the next key of a list is that of its mapped one
  next_mapped : (es : List (ℕ × X)) (fs : List (ℕ × Y)) (o next : ℕ) → ((q : ℕ) → value_of fs q ≡ option_map g (value_of es q)) → IsNextAbove es o next → IsNextAbove fs o next
  next_mapped es fs o next at is = record {
    above = is.above;
    there = subst (λ (r : Option Y). IsSome r) (sym (at next)) (some_mapped g (value_of es next) is.there);
    least = λ q over under. at q ∙ ap (option_map g) (is.least q over under);
  }

module _ {V : Type 0} where
  row_at : (es : List (ℕ × Kept V)) (q : ℕ) → value_of (parts_of es).rows q ≡ option_map (λ k. k.row) (value_of es q)
  row_at es q = lookup-map_values (λ (k : Kept V). k.row) (is_at (nat_cmp q)) es

  value_at : (es : List (ℕ × Kept V)) (q : ℕ) → value_of (parts_of es).values q ≡ option_map (λ k. k.value) (value_of es q)
  value_at es q = lookup-map_values (λ (k : Kept V). k.value) (is_at (nat_cmp q)) es

  -- what is kept of an object is its row and its value
  pub kept_of : (es : List (ℕ × Kept V)) (o : ℕ) (found : Option (Kept V)) → found ≡ value_of es o → IsKeptOf (parts_of es) o found
  kept_of es o found is = record {
    row = ap (option_map (λ k. k.row)) is ∙ sym (row_at es o);
    value = ap (option_map (λ k. k.value)) is ∙ sym (value_at es o);
  }

  -- an object without a row has nothing
  pub none_kept : (es : List (ℕ × Kept V)) (o : ℕ) → value_of (parts_of es).rows o ≡ None → value_of es o ≡ None
  none_kept es o none = none_mapped (λ (k : Kept V). k.row) (value_of es o) (sym (row_at es o) ∙ none)

  -- where something is kept of an object, its row and its value are kept
  pub puts : (es fs : List (ℕ × Kept V)) (o : ℕ) (kept : Kept V) → ((q : ℕ) → value_of fs q ≡ with_value (value_of es) o kept q) → Puts (parts_of es) o kept.row kept.value (parts_of fs)
  puts es fs o kept put = record {
    rows = λ q. row_at fs q ∙ ap (option_map (λ k. k.row)) (put q) ∙ mapped_if (λ (k : Kept V). k.row) (o == q) kept (value_of es q) ∙ ap (λ v. if o == q then Some kept.row else v) (sym (row_at es q));
    values = λ q. value_at fs q ∙ ap (option_map (λ k. k.value)) (put q) ∙ mapped_if (λ (k : Kept V). k.value) (o == q) kept (value_of es q) ∙ ap (λ v. if o == q then Some kept.value else v) (sym (value_at es q));
  }

  keys_below : (es : List (ℕ × Kept V)) (o : ℕ) → AreBelow (parts_of es).rows o → AreBelow es o
  keys_below [] o below = All-nil (λ (e : ℕ × Kept V). e.0 < o)
  keys_below (e ∷ es) o below =
      let P : ℕ × Row → Type 0 = λ r. r.0 < o in
      All-cons (λ (k : ℕ × Kept V). k.0 < o) e es (All-head P (e.0, e.1.row) (parts_of es).rows below) (keys_below es o (All-tail P (e.0, e.1.row) (parts_of es).rows below))

  -- where all rows are of objects below, so is all that is kept
  pub kept_below : (es : List (ℕ × Kept V)) (m : MapOf V) (o n : ℕ) → parts_of es ≡ m → n ≡ o → AreBelow m.rows o → AreBelow es n
  kept_below es m o n view number below =
      subst (AreBelow es) (sym number) (keys_below es o (subst (λ (v : MapOf V). AreBelow v.rows o) (sym view) below))

  -- where something is kept after all else, its row and its value come after
  pub puts_behind : (es fs : List (ℕ × Kept V)) (o n : ℕ) (kept : Kept V) → n ≡ o → fs ≡ es ++ (n, kept) ∷ [] → PutsBehind (parts_of es) o kept.row kept.value (parts_of fs)
  puts_behind es fs o n kept number is =
      let same : fs ≡ es ++ (o, kept) ∷ [] = is ∙ ap (λ (k : ℕ). es ++ (k, kept) ∷ []) number in
      record {
        rows = ap (map (λ (e : ℕ × Kept V). (e.0, e.1.row))) same ∙ map-append (λ (e : ℕ × Kept V). (e.0, e.1.row)) es ((o, kept) ∷ []);
        values = ap (map (λ (e : ℕ × Kept V). (e.0, e.1.value))) same ∙ map-append (λ (e : ℕ × Kept V). (e.0, e.1.value)) es ((o, kept) ∷ []);
      }

  changed_by : (es fs : List (ℕ × Kept V)) (o : ℕ) (row : Row) (value : V) (found : Option (Kept V))
      → IfSome found (λ old. (q : ℕ) → value_of fs q ≡ with_value (value_of es) o (record { row = record row { stamp = old.row.stamp + 1 }; value = value }) q)
      → IfSome (option_map (λ k. k.row) found) (λ old. Puts (parts_of es) o (record row { stamp = old.stamp + 1 }) value (parts_of fs))
  changed_by es fs o row value None put = put
  changed_by es fs o row value (Some old) put = puts es fs o (record { row = record row { stamp = old.row.stamp + 1 }; value = value }) put

  -- where another row and another value are put, with the next stamp
  pub changed : (es fs : List (ℕ × Kept V)) (o : ℕ) (row : Row) (value : V)
      → IfSome (value_of es o) (λ old. (q : ℕ) → value_of fs q ≡ with_value (value_of es) o (record { row = record row { stamp = old.row.stamp + 1 }; value = value }) q)
      → IfSome (value_of (parts_of es).rows o) (λ old. Puts (parts_of es) o (record row { stamp = old.stamp + 1 }) value (parts_of fs))
  changed es fs o row value put = subst (λ (r : Option Row). IfSome r (λ old. Puts (parts_of es) o (record row { stamp = old.stamp + 1 }) value (parts_of fs))) (sym (row_at es o)) (changed_by es fs o row value (value_of es o) put)

  -- where a value is written through, beside another row with the next stamp
  pub lent : (es fs : List (ℕ × Kept V)) (o n : ℕ) (row next : Row) (value : V) (old : Kept V) → n ≡ o → Some old ≡ value_of es n → next ≡ record row { stamp = old.row.stamp + 1 }
      → PutsAt es n (record { row = next; value = value }) fs
      → IfSome (value_of (parts_of es).rows o) (λ before. Puts (parts_of es) o (record row { stamp = before.stamp + 1 }) value (parts_of fs))
  lent es fs o n row next value old number there is put =
      let found : value_of es o ≡ Some old = ap (value_of es) (sym number) ∙ sym there in
      let written : PutsAt es o (record { row = record row { stamp = old.row.stamp + 1 }; value = value }) fs =
      subst (λ (k : ℕ). PutsAt es k (record { row = record row { stamp = old.row.stamp + 1 }; value = value }) fs) number
      (subst (λ (r : Row). PutsAt es n (record { row = r; value = value }) fs) is put) in
      changed es fs o row value (subst (λ (f : Option (Kept V)). IfSome f (λ before. (q : ℕ) → value_of fs q ≡ with_value (value_of es) o (record { row = record row { stamp = before.row.stamp + 1 }; value = value }) q)) (sym found) written)

  -- what is found of an object, by its number
  pub row_found : (es : List (ℕ × Kept V)) (m : MapOf V) (o n : ℕ) (found : Option (Kept V)) → parts_of es ≡ m → n ≡ o → found ≡ value_of es n → value_of m.rows o ≡ option_map (λ k. k.row) found
  row_found es m o n found view number is =
      ap (λ (v : MapOf V). value_of v.rows o) (sym view) ∙ row_at es o ∙ ap (λ (k : ℕ). option_map (λ (k : Kept V). k.row) (value_of es k)) (sym number) ∙ ap (option_map (λ (k : Kept V). k.row)) (sym is)

  pub value_found : (es : List (ℕ × Kept V)) (m : MapOf V) (o n : ℕ) (found : Option (Kept V)) → parts_of es ≡ m → n ≡ o → found ≡ value_of es n → value_of m.values o ≡ option_map (λ k. k.value) found
  value_found es m o n found view number is =
      ap (λ (v : MapOf V). value_of v.values o) (sym view) ∙ value_at es o ∙ ap (λ (k : ℕ). option_map (λ (k : Kept V). k.value) (value_of es k)) (sym number) ∙ ap (option_map (λ (k : Kept V). k.value)) (sym is)

  value_stays : (es fs : List (ℕ × Kept V)) (o : ℕ) (row : Row) (old : Kept V) → value_of es o ≡ Some old
      → ((q : ℕ) → value_of fs q ≡ with_value (value_of es) o (record old { row = row }) q) → (q : ℕ) → value_of (parts_of fs).values q ≡ value_of (parts_of es).values q
  value_stays es fs o row old there put q = elim (cases_Bool (o == q)) [
    | inl here ↦
        (puts es fs o (record old { row = row }) put).values q ∙ cond-true (o == q) (Some old.value) (value_of (parts_of es).values q) here
        ∙ sym (ap (λ (k : ℕ). value_of (parts_of es).values k) (sym (eqb-true o q here)) ∙ value_at es o ∙ ap (option_map (λ k. k.value)) there)
    | inr other ↦ (puts es fs o (record old { row = row }) put).values q ∙ cond-false (o == q) (Some old.value) (value_of (parts_of es).values q) other
  ]

  row_changed_by : (es fs : List (ℕ × Kept V)) (o : ℕ) (row : Row) (found : Option (Kept V)) → value_of es o ≡ found
      → IfSome found (λ old. (q : ℕ) → value_of fs q ≡ with_value (value_of es) o (record old { row = record row { stamp = old.row.stamp + 1 } }) q)
      → IfSome (option_map (λ k. k.row) found) (λ old. PutsRow (parts_of es) o (record row { stamp = old.stamp + 1 }) (parts_of fs))
  row_changed_by es fs o row None is put = put
  row_changed_by es fs o row (Some old) is put = record {
    rows = (puts es fs o (record old { row = record row { stamp = old.row.stamp + 1 } }) put).rows;
    values = value_stays es fs o (record row { stamp = old.row.stamp + 1 }) old is put;
  }

  -- where another row is put, with the next stamp
  pub row_changed : (es fs : List (ℕ × Kept V)) (o : ℕ) (row : Row)
      → IfSome (value_of es o) (λ old. (q : ℕ) → value_of fs q ≡ with_value (value_of es) o (record old { row = record row { stamp = old.row.stamp + 1 } }) q)
      → IfSome (value_of (parts_of es).rows o) (λ old. PutsRow (parts_of es) o (record row { stamp = old.stamp + 1 }) (parts_of fs))
  row_changed es fs o row put = subst (λ (r : Option Row). IfSome r (λ old. PutsRow (parts_of es) o (record row { stamp = old.stamp + 1 }) (parts_of fs))) (sym (row_at es o)) (row_changed_by es fs o row (value_of es o) refl put)

  stamps_by : (found : Option (Kept V)) → IfSome (option_map (λ k. k.row) found) (λ old. old.stamp + 1 < 2 ^ 64) → IfSome found (λ old. old.row.stamp + 1 < 2 ^ 64)
  stamps_by None is = is
  stamps_by (Some old) is = is

  there_by : (found : Option (Kept V)) → IsSome (option_map (λ k. k.row) found) → IsSome found
  there_by None is = is
  there_by (Some old) is = is

  -- the bound of an object's stamp, and that it has a row, hold of what is kept of it
  pub can_change : (es : List (ℕ × Kept V)) (m : MapOf V) (o n : ℕ) → parts_of es ≡ m → n ≡ o → IfSome (value_of m.rows o) (λ old. old.stamp + 1 < 2 ^ 64) → IsSome (value_of m.rows o)
      → IfSome (value_of es n) (λ old. old.row.stamp + 1 < 2 ^ 64) × IsSome (value_of es n)
  can_change es m o n view number is some =
      let rows : value_of m.rows o ≡ option_map (λ k. k.row) (value_of es n) =
      ap (λ (v : MapOf V). value_of v.rows o) (sym view) ∙ row_at es o ∙ ap (λ (k : ℕ). option_map (λ (k : Kept V). k.row) (value_of es k)) (sym number) in (
        stamps_by (value_of es n) (subst (λ (r : Option Row). IfSome r (λ old. old.stamp + 1 < 2 ^ 64)) rows is),
        there_by (value_of es n) (subst (λ (r : Option Row). IsSome r) rows some),
      )

  -- where nothing is kept of an object any more, it has neither
  pub removes : (es fs : List (ℕ × Kept V)) (o : ℕ) → ((q : ℕ) → value_of fs q ≡ without_value (value_of es) o q) → Removes (parts_of es) o (parts_of fs)
  removes es fs o gone = record {
    rows = λ q. row_at fs q ∙ ap (option_map (λ k. k.row)) (gone q) ∙ mapped_without (λ (k : Kept V). k.row) (o == q) (value_of es q) ∙ ap (λ v. if o == q then None else v) (sym (row_at es q));
    values = λ q. value_at fs q ∙ ap (option_map (λ k. k.value)) (gone q) ∙ mapped_without (λ (k : Kept V). k.value) (o == q) (value_of es q) ∙ ap (λ v. if o == q then None else v) (sym (value_at es q));
  }

  -- the next object of which something is kept is the next that has a row
  pub next_row : (es : List (ℕ × Kept V)) (o next : ℕ) → IsNextAbove es o next → IsNextAbove (parts_of es).rows o next
  next_row es o next is = next_mapped (λ (k : Kept V). k.row) es (parts_of es).rows o next (row_at es) is

  pub none_above : (es : List (ℕ × Kept V)) (o : ℕ) → ((q : ℕ) → o < q → value_of es q ≡ None) → (q : ℕ) → o < q → value_of (parts_of es).rows q ≡ None
  none_above es o none q over = row_at es q ∙ ap (option_map (λ k. k.row)) (none q over)

-- Each thing is in a box of its own.
module _ {X : Type 0} where
  pub unboxed_at : (es : List (ℕ × Box X)) (q : ℕ) → value_of (unboxed es) q ≡ option_map (λ b. b.value) (value_of es q)
  unboxed_at es q = lookup-map_values (λ (b : Box X). b.value) (is_at (nat_cmp q)) es

  -- what is in a box that is found
  pub found_in_box : (es : List (ℕ × Box X)) (k : ℕ) (b : Box X) → Some b ≡ value_of es k → value_of (unboxed es) k ≡ Some b.value
  found_in_box es k b is = unboxed_at es k ∙ ap (option_map (λ (x : Box X). x.value)) (sym is)

  -- where there is no box, there is nothing
  pub not_in_box : (es : List (ℕ × Box X)) (k : ℕ) → None ≡ value_of es k → value_of (unboxed es) k ≡ None
  not_in_box es k none = unboxed_at es k ∙ ap (option_map (λ (x : Box X). x.value)) (sym none)

  -- where there is nothing, there is no box
  pub no_box : (es : List (ℕ × Box X)) (o : ℕ) → value_of (unboxed es) o ≡ None → value_of es o ≡ None
  no_box es o none = none_mapped (λ (b : Box X). b.value) (value_of es o) (sym (unboxed_at es o) ∙ none)

  -- where a box is put, what is in it is
  pub puts_unboxed : (es fs : List (ℕ × Box X)) (o : ℕ) (b : Box X) → PutsAt es o b fs → PutsAt (unboxed es) o b.value (unboxed fs)
  puts_unboxed es fs o b put q =
      unboxed_at fs q ∙ ap (option_map (λ (x : Box X). x.value)) (put q) ∙ mapped_if (λ (x : Box X). x.value) (o == q) b (value_of es q)
      ∙ ap (λ (v : Option X). if o == q then Some b.value else v) (sym (unboxed_at es q))

  boxes_below : (es : List (ℕ × Box X)) (o : ℕ) → AreBelow (unboxed es) o → AreBelow es o
  boxes_below [] o below = All-nil (λ (e : ℕ × Box X). e.0 < o)
  boxes_below (e ∷ es) o below =
      let P : ℕ × X → Type 0 = λ r. r.0 < o in
      All-cons (λ (k : ℕ × Box X). k.0 < o) e es (All-head P (e.0, e.1.value) (unboxed es) below) (boxes_below es o (All-tail P (e.0, e.1.value) (unboxed es) below))

  -- a box whose key is above all others goes to the end
  pub boxed_behind : (es fs : List (ℕ × Box X)) (k : ℕ) (b : Box X) → fs ≡ insert_entry nat_cmp es k b → AreBelow (unboxed es) k → unboxed fs ≡ unboxed es ++ (k, b.value) ∷ []
  boxed_behind es fs k b is below =
      ap unboxed (is ∙ inserted_behind es k b (boxes_below es k below)) ∙ map-append (λ (e : ℕ × Box X). (e.0, e.1.value)) es ((k, b) ∷ [])

  -- what is taken out with its box
  pub unboxed_without : (es fs : List (ℕ × Box X)) (o : ℕ) → ((q : ℕ) → value_of fs q ≡ without_value (value_of es) o q) → (q : ℕ) → value_of (unboxed fs) q ≡ without_value (value_of (unboxed es)) o q
  unboxed_without es fs o gone q =
      unboxed_at fs q ∙ ap (option_map (λ (b : Box X). b.value)) (gone q) ∙ mapped_without (λ (b : Box X). b.value) (o == q) (value_of es q)
      ∙ ap (λ (v : Option X). if o == q then None else v) (sym (unboxed_at es q))

  pub next_unboxed : (es : List (ℕ × Box X)) (o next : ℕ) → IsNextAbove es o next → IsNextAbove (unboxed es) o next
  next_unboxed es o next is = next_mapped (λ (b : Box X). b.value) es (unboxed es) o next (unboxed_at es) is

  pub none_unboxed : (es : List (ℕ × Box X)) (o : ℕ) → ((q : ℕ) → o < q → value_of es q ≡ None) → (q : ℕ) → o < q → value_of (unboxed es) q ≡ None
  none_unboxed es o none q over = unboxed_at es q ∙ ap (option_map (λ (b : Box X). b.value)) (none q over)

  pub put_at : (es fs : List (ℕ × Box X)) (k : ℕ) (b : Box X) → ((q : ℕ) → value_of fs q ≡ cond (is_at (nat_cmp k) q) (Some b) (value_of es q)) → PutsAt es k b fs
  put_at es fs k b put q = put q ∙ ap (λ (test : Bool). cond test (Some b) (value_of es q)) (same_key k q)

  -- where another box is found at a key, what is in it is put there
  pub replaced : (es fs : List (ℕ × Box X)) (k : ℕ) (old new : Box X) (P : X → X) → Some old ≡ value_of es k → new.value ≡ P old.value
      → ((q : ℕ) → value_of fs q ≡ cond (is_at (nat_cmp k) q) (Some new) (value_of es q)) → IfSome (value_of (unboxed es) k) (λ before. PutsAt (unboxed es) k (P before) (unboxed fs))
  replaced es fs k old new P there is put =
      let written : PutsAt es k new fs = put_at es fs k new put in
      let now : PutsAt (unboxed es) k (P old.value) (unboxed fs) = subst (λ (x : X). PutsAt (unboxed es) k x (unboxed fs)) is (puts_unboxed es fs k new written) in
      subst (λ (f : Option X). IfSome f (λ before. PutsAt (unboxed es) k (P before) (unboxed fs))) (sym (found_in_box es k old there)) now

  -- where no box is found, nothing is asked
  pub none_replaced : (es : List (ℕ × Box X)) (k : ℕ) (P : X → Type 0) → None ≡ value_of es k → IfSome (value_of (unboxed es) k) P
  none_replaced es k P none = if_none P (value_of (unboxed es) k) (not_in_box es k none)
