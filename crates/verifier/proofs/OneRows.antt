-- The rows of an image are told by what is found of each object.
use Rattle.std.proofs.Common.{◌≡◌, ℕ, ◌+◌, ◌^◌, ◌<◌, List, [], ◌∷◌, Option, Some, refl, sym, ap, ◌∙◌, subst, inl, inr, arith}
use Rattle.std.specs.Int.{w64, from_be_bytes}
use Rattle.std.specs.List.{AllByRecursion}
use Rattle.std.proofs.lemmas.Bool.{cases_eq, cases_lt}
use Rattle.std.proofs.lemmas.Nat.{from_be_bytes-to_be_bytes_8}
use Rattle.std.proofs.lemmas.Option.{none-some, same_Some}
use Rattle.s4_types.specs.Pointer.{Place}
use Rattle.codec.specs.Fields.{number, SpellsSlot}
use Rattle.object_map.specs.declared.map.Row.{Row}
use Rattle.object_map.specs.Rows.{row_of}
use Rattle.image_parts.specs.Rows.{IsRow}
use Rattle.image_parts.specs.declared.rows.RowPart.{RowPart}
use Rattle.image_objects.specs.declared.rows.ImageRow.{ImageRow}
use Rattle.image_objects.specs.Saved.{ObjectsAscend}
use Rattle.verifier.specs.Rows.{SpellsRow, SpellRows}
use Rattle.verifier.proofs.ListedRows.{found_here, found_behind, none_before}

-- ---- ascending lists in which the same is found

abbrev FindAlike : List (ℕ × Row) → List (ℕ × Row) → Type 0
FindAlike rows others = (o : ℕ) → row_of rows o ≡ row_of others o

-- the first of one list isn't below that of the other, where it would not be found
not_below : (low : ℕ) (e f : ℕ × Row) (rows others : List (ℕ × Row)) → ObjectsAscend low (f ∷ others) → FindAlike (e ∷ rows) (f ∷ others) → e.0 < f.0 → ⊥
not_below low e f rows others ascend alike less =
    none-some e.1 (sym (none_before (f ∷ others) f.0 e.0 (omega arith, ascend.1) less) ∙ sym (alike e.0) ∙ found_here rows e.0 e.1)

same_entry : (e f : ℕ × Row) → e.0 ≡ f.0 → e.1 ≡ f.1 → e ≡ f
same_entry e f object row =
    let with_row : Row → ℕ × Row = λ r. (e.0, r) in
    let with_object : ℕ → ℕ × Row = λ n. (n, f.1) in
    ap with_row row ∙ ap with_object object

one_first_row : (low : ℕ) (e f : ℕ × Row) (rows others : List (ℕ × Row)) → ObjectsAscend low (e ∷ rows) → ObjectsAscend low (f ∷ others) → FindAlike (e ∷ rows) (f ∷ others) → e ≡ f
one_first_row low e f rows others ascend_e ascend_f alike =
    let object : e.0 ≡ f.0 = elim (cases_lt e.0 f.0) [
      | inl less ↦ absurd (not_below low e f rows others ascend_f alike less)
      | inr up ↦ elim (cases_lt f.0 e.0) [
        | inl more ↦ absurd (not_below low f e others rows ascend_e (λ o. sym (alike o)) more)
        | inr down ↦ omega arith
      ]
    ] in
    let found : row_of (f ∷ others) e.0 ≡ Some f.1 = ap (row_of (f ∷ others)) object ∙ found_here others f.0 f.1 in
    same_entry e f object (same_Some e.1 f.1 (sym (found_here rows e.0 e.1) ∙ alike e.0 ∙ found))

others_alike : (low : ℕ) (e : ℕ × Row) (rows others : List (ℕ × Row)) → ObjectsAscend low (e ∷ rows) → ObjectsAscend low (e ∷ others) → FindAlike (e ∷ rows) (e ∷ others) → FindAlike rows others
others_alike low e rows others ascend ascend_others alike = λ o. elim (cases_eq o e.0) [
  | inl own ↦ none_before rows (e.0 + 1) o ascend.1 (omega arith) ∙ sym (none_before others (e.0 + 1) o ascend_others.1 (omega arith))
  | inr apart ↦ sym (found_behind rows o e.0 e.1 apart) ∙ alike o ∙ found_behind others o e.0 e.1 apart
]

-- two lists of rows by ascending objects in which the same is found
pub one_list_of_rows : (low : ℕ) (rows others : List (ℕ × Row)) → ObjectsAscend low rows → ObjectsAscend low others → FindAlike rows others → rows ≡ others
one_list_of_rows low [] [] ascend ascend_others alike = refl
one_list_of_rows low [] (f ∷ others) ascend ascend_others alike = absurd (none-some f.1 (alike f.0 ∙ found_here others f.0 f.1))
one_list_of_rows low (e ∷ rows) [] ascend ascend_others alike = absurd (none-some e.1 (sym (alike e.0) ∙ found_here rows e.0 e.1))
one_list_of_rows low (e ∷ rows) (f ∷ others) ascend ascend_others alike =
    let same : e ≡ f = one_first_row low e f rows others ascend ascend_others alike in
    let ascend_e : ObjectsAscend low (e ∷ others) = subst (λ (x : ℕ × Row). ObjectsAscend low (x ∷ others)) (sym same) ascend_others in
    let alike_e : FindAlike (e ∷ rows) (e ∷ others) = subst (λ (x : ℕ × Row). FindAlike (e ∷ rows) (x ∷ others)) (sym same) alike in
    let rest : rows ≡ others = one_list_of_rows (e.0 + 1) rows others ascend.1 ascend_e.1 (others_alike low e rows others ascend ascend_e alike_e) in
    ap (λ (l : List (ℕ × Row)). e ∷ l) rest ∙ ap (λ (x : ℕ × Row). x ∷ others) same

-- ---- parts that encode the same rows

one_number : (n m : ℕ) → n < 2 ^ 64 → m < 2 ^ 64 → number w64 n ≡ number w64 m → n ≡ m
unfolding number
one_number n m small_n small_m same = sym (from_be_bytes-to_be_bytes_8 n small_n) ∙ ap (from_be_bytes w64) same ∙ from_be_bytes-to_be_bytes_8 m small_m

-- the numbers of a pointer's bytes
one_slot : (n m : ℕ) (p : Option Place) → n < 2 ^ 64 → m < 2 ^ 64 → SpellsSlot (number w64 n) p → SpellsSlot (number w64 m) p → n ≡ m
one_slot n m p small_n small_m spelled_n spelled_m = one_number n m small_n small_m (spelled_n.1 ∙ sym spelled_m.1)

made : ℕ → ℕ → ℕ → ℕ → ℕ → RowPart
made object created checkpoint moment head = record { object = object; created = created; checkpoint = checkpoint; checkpoint_moment = moment; head = head }

same_part : (p q : RowPart) → p.object ≡ q.object → p.created ≡ q.created → p.checkpoint ≡ q.checkpoint → p.checkpoint_moment ≡ q.checkpoint_moment → p.head ≡ q.head → p ≡ q
unfolding made
same_part p q object created checkpoint moment head =
    ap (λ n. made n p.created p.checkpoint p.checkpoint_moment p.head) object
    ∙ ap (λ n. made q.object n p.checkpoint p.checkpoint_moment p.head) created
    ∙ ap (λ n. made q.object q.created n p.checkpoint_moment p.head) checkpoint
    ∙ ap (λ n. made q.object q.created q.checkpoint n p.head) moment
    ∙ ap (made q.object q.created q.checkpoint q.checkpoint_moment) head

one_part : (p q : RowPart) (row : ImageRow) → IsRow p → IsRow q → SpellsRow p row → SpellsRow q row → p ≡ q
one_part p q row is_p is_q spelled_p spelled_q =
    same_part p q (sym spelled_p.object ∙ spelled_q.object) (sym spelled_p.created ∙ spelled_q.created)
    (one_slot p.checkpoint q.checkpoint row.checkpoint is_p.checkpoint is_q.checkpoint spelled_p.checkpoint spelled_q.checkpoint)
    (sym spelled_p.checkpoint_moment ∙ spelled_q.checkpoint_moment)
    (one_slot p.head q.head row.head is_p.head is_q.head spelled_p.head spelled_q.head)

-- two lists of parts that encode the same rows
pub one_list_of_parts : (parts others : List RowPart) (rows : List ImageRow) → AllByRecursion IsRow parts → AllByRecursion IsRow others → SpellRows parts rows → SpellRows others rows → parts ≡ others
one_list_of_parts [] [] [] is_p is_q spelled_p spelled_q = refl
one_list_of_parts [] [] (row ∷ rows) is_p is_q spelled_p spelled_q = absurd spelled_p
one_list_of_parts [] (q ∷ others) [] is_p is_q spelled_p spelled_q = absurd spelled_q
one_list_of_parts [] (q ∷ others) (row ∷ rows) is_p is_q spelled_p spelled_q = absurd spelled_p
one_list_of_parts (p ∷ parts) [] [] is_p is_q spelled_p spelled_q = absurd spelled_p
one_list_of_parts (p ∷ parts) [] (row ∷ rows) is_p is_q spelled_p spelled_q = absurd spelled_q
one_list_of_parts (p ∷ parts) (q ∷ others) [] is_p is_q spelled_p spelled_q = absurd spelled_p
one_list_of_parts (p ∷ parts) (q ∷ others) (row ∷ rows) is_p is_q spelled_p spelled_q =
    ap (λ (x : RowPart). x ∷ parts) (one_part p q row is_p.0 is_q.0 spelled_p.0 spelled_q.0)
    ∙ ap (λ (l : List RowPart). q ∷ l) (one_list_of_parts parts others rows is_p.1 is_q.1 spelled_p.1 spelled_q.1)
