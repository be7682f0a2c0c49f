-- Rows and spans that are encoded are read, and what is read of them is encoded.
use Rattle.std.proofs.Common.{◌≡◌, ℕ, zero, suc, ◌+◌, ◌*◌, ◌≤◌, List, [], ◌∷◌, ◌++◌, length, take, drop, refl, sym, ap, ◌∙◌, arith, append_assoc, length-append, length-drop}
use Rattle.std.specs.Int.{w64}
use Rattle.std.specs.List.{flat_map, AllByRecursion}
use Rattle.std.proofs.Math.Seq.{take-add}
use Rattle.std.proofs.lemmas.List.{drop-drop}
use Rattle.std.proofs.lemmas.List.Concat.{flat_map-cons}
use Rattle.std.proofs.lemmas.Nat.{from_be_bytes-to_be_bytes_8}
use Rattle.s4_types.specs.declared.spans.Span.{Span}
use Rattle.lemmas.proofs.Bytes.{bytes_after, IsBytes}
use Rattle.codec.specs.Fields.{number}
use Rattle.image_parts.specs.Header.{number_in}
use Rattle.image_parts.specs.Rows.{IsRow, row_bytes, row_in, rows_in}
use Rattle.image_parts.specs.Spans.{IsSpan, span_bytes, span_in, spans_in}
use Rattle.image_parts.specs.declared.rows.RowPart.{RowPart}
use Rattle.image_parts.proofs.NumberLaws.{long_back, long_below}

-- ---- parts of one width, one after the other

module _ {X : Type 0} (width : ℕ) (spell : X → List ℕ) (first : List ℕ → X) (firsts : ℕ → List ℕ → List X)
    (none : (bytes : List ℕ) → firsts 0 bytes ≡ []) (more : (n : ℕ) (bytes : List ℕ) → firsts (suc n) bytes ≡ first bytes ∷ firsts n (drop width bytes)) where
  -- what is read is encoded
  module _ (back : (bytes : List ℕ) → IsBytes bytes → width ≤ length bytes → spell (first bytes) ≡ take width bytes) where
    pub all_back : (n : ℕ) (bytes : List ℕ) → IsBytes bytes → width * n ≤ length bytes → flat_map spell (firsts n bytes) ≡ take (width * n) bytes
    all_back zero bytes h le = let k : width * 0 ≡ 0 = omega arith in ap (flat_map spell) (none bytes) ∙ ap (λ (m : ℕ). take m bytes) (sym k)
    all_back (suc n) bytes h le =
        let k : width * suc n ≡ width + width * n = omega arith in
        let here = back bytes h (omega (arith, le, k)) in
        let later = all_back n (drop width bytes) (bytes_after width bytes h) (omega (arith, le, k, length-drop width bytes)) in
        let joined : flat_map spell (first bytes ∷ firsts n (drop width bytes)) ≡ take width bytes ++ take (width * n) (drop width bytes) = flat_map-cons spell (first bytes) (firsts n (drop width bytes)) ∙ rw (here, later) refl in
        ap (flat_map spell) (more n bytes) ∙ joined ∙ sym (take-add width (width * n) bytes) ∙ ap (λ (m : ℕ). take m bytes) (sym k)

  -- what is encoded is read
  module _ (Fits : X → Type 0) (again : (x : X) (rest : List ℕ) → Fits x → first (spell x ++ rest) ≡ x) (behind : (x : X) (rest : List ℕ) → drop width (spell x ++ rest) ≡ rest) where
    pub all_again : (xs : List X) (rest : List ℕ) → AllByRecursion Fits xs → firsts (length xs) (flat_map spell xs ++ rest) ≡ xs
    all_again [] rest fits = none rest
    all_again (x ∷ xs) rest fits =
        let regrouped : flat_map spell (x ∷ xs) ++ rest ≡ spell x ++ (flat_map spell xs ++ rest) = rw flat_map-cons (append_assoc (spell x) (flat_map spell xs) rest) in
        let tail = flat_map spell xs ++ rest in
        rw regrouped (more (length xs) (spell x ++ tail) ∙ rw (again x tail fits.0, behind x tail, all_again xs rest fits.1) refl)

  pub all_length : ((x : X) → length (spell x) ≡ width) → (xs : List X) → length (flat_map spell xs) ≡ width * length xs
  all_length wide [] = omega arith
  all_length wide (x ∷ xs) =
      let k : width * suc (length xs) ≡ width + width * length xs = omega arith in
      let front : length (flat_map spell (x ∷ xs)) ≡ length (spell x ++ flat_map spell xs) = ap length (flat_map-cons spell x xs) in
      omega (arith, k, front, length-append (spell x) (flat_map spell xs), wide x, all_length wide xs)

-- ---- rows

made_row : ℕ → ℕ → ℕ → ℕ → ℕ → RowPart
made_row object created checkpoint moment head = record { object = object; created = created; checkpoint = checkpoint; checkpoint_moment = moment; head = head }

same_row : (a b c d e a' b' c' d' e' : ℕ) → a ≡ a' → b ≡ b' → c ≡ c' → d ≡ d' → e ≡ e' → made_row a b c d e ≡ made_row a' b' c' d' e'
same_row a b c d e a' b' c' d' e' p q r s t = cc

row_again : (r : RowPart) (rest : List ℕ) → IsRow r → row_in (row_bytes r ++ rest) ≡ r
unfolding row_in row_bytes number_in number made_row
row_again r rest k =
    same_row _ _ _ _ _ r.object r.created r.checkpoint r.checkpoint_moment r.head
    (from_be_bytes-to_be_bytes_8 r.object k.object)
    (from_be_bytes-to_be_bytes_8 r.created k.created)
    (from_be_bytes-to_be_bytes_8 r.checkpoint k.checkpoint)
    (from_be_bytes-to_be_bytes_8 r.checkpoint_moment k.checkpoint_moment)
    (from_be_bytes-to_be_bytes_8 r.head k.head)

row_behind : (r : RowPart) (rest : List ℕ) → drop 40 (row_bytes r ++ rest) ≡ rest
unfolding row_bytes number
row_behind r rest = refl

row_length : (r : RowPart) → length (row_bytes r) ≡ 40
unfolding row_bytes number
row_length r = refl

-- eight bytes more in front of others
pub longer : (n at : ℕ) (bytes rest : List ℕ) → rest ≡ take n (drop (at + 8) bytes) → take 8 (drop at bytes) ++ rest ≡ take (8 + n) (drop at bytes)
longer n at bytes rest is = rw (is, ← drop-drop 8 at bytes) (sym (take-add 8 n (drop at bytes)))

pub eight_back : (at : ℕ) (bytes : List ℕ) → IsBytes bytes → at + 8 ≤ length bytes → number w64 (number_in w64 (drop at bytes)) ≡ take 8 (drop at bytes)
eight_back at bytes h le = long_back (drop at bytes) (bytes_after at bytes h) (omega (arith, le, length-drop at bytes))

row_back : (bytes : List ℕ) → IsBytes bytes → 40 ≤ length bytes → row_bytes (row_in bytes) ≡ take 40 bytes
unfolding row_in row_bytes
row_back bytes h le =
    let a = eight_back 0 bytes h (omega (arith, le)) in
    let b = eight_back 8 bytes h (omega (arith, le)) in
    let c = eight_back 16 bytes h (omega (arith, le)) in
    let d = eight_back 24 bytes h (omega (arith, le)) in
    let e = eight_back 32 bytes h (omega (arith, le)) in
    rw (a, b, c, d, e) (longer 32 0 bytes _ (longer 24 8 bytes _ (longer 16 16 bytes _ (longer 8 24 bytes _ refl))))

pub rows_back : (n : ℕ) (bytes : List ℕ) → IsBytes bytes → 40 * n ≤ length bytes → flat_map row_bytes (rows_in n bytes) ≡ take (40 * n) bytes
rows_back = all_back 40 row_bytes row_in rows_in (λ bytes. refl) (λ n bytes. refl) row_back

pub rows_again : (rows : List RowPart) (rest : List ℕ) → AllByRecursion IsRow rows → rows_in (length rows) (flat_map row_bytes rows ++ rest) ≡ rows
rows_again = all_again 40 row_bytes row_in rows_in (λ bytes. refl) (λ n bytes. refl) IsRow row_again row_behind

pub rows_length : (rows : List RowPart) → length (flat_map row_bytes rows) ≡ 40 * length rows
rows_length = all_length 40 row_bytes row_in rows_in (λ bytes. refl) (λ n bytes. refl) row_length

row_is : (bytes : List ℕ) → IsBytes bytes → IsRow (row_in bytes)
unfolding row_in
row_is bytes h = record {
  object = long_below bytes h;
  created = long_below (drop 8 bytes) (bytes_after 8 bytes h);
  checkpoint = long_below (drop 16 bytes) (bytes_after 16 bytes h);
  checkpoint_moment = long_below (drop 24 bytes) (bytes_after 24 bytes h);
  head = long_below (drop 32 bytes) (bytes_after 32 bytes h);
}

pub rows_are : (n : ℕ) (bytes : List ℕ) → IsBytes bytes → AllByRecursion IsRow (rows_in n bytes)
rows_are zero bytes h = tt
rows_are (suc n) bytes h = (row_is bytes h, rows_are n (drop 40 bytes) (bytes_after 40 bytes h))

-- ---- spans

made_span : ℕ → ℕ → ℕ → Span
made_span object first last = record { object = object; first = first; last = last }

same_span : (a b c a' b' c' : ℕ) → a ≡ a' → b ≡ b' → c ≡ c' → made_span a b c ≡ made_span a' b' c'
same_span a b c a' b' c' p q r = cc

span_again : (s : Span) (rest : List ℕ) → IsSpan s → span_in (span_bytes s ++ rest) ≡ s
unfolding span_in span_bytes number_in number made_span
span_again s rest k =
    same_span _ _ _ s.object s.first s.last (from_be_bytes-to_be_bytes_8 s.object k.object) (from_be_bytes-to_be_bytes_8 s.first k.first) (from_be_bytes-to_be_bytes_8 s.last k.last)

span_behind : (s : Span) (rest : List ℕ) → drop 24 (span_bytes s ++ rest) ≡ rest
unfolding span_bytes number
span_behind s rest = refl

span_length : (s : Span) → length (span_bytes s) ≡ 24
unfolding span_bytes number
span_length s = refl

span_back : (bytes : List ℕ) → IsBytes bytes → 24 ≤ length bytes → span_bytes (span_in bytes) ≡ take 24 bytes
unfolding span_in span_bytes
span_back bytes h le =
    let a = eight_back 0 bytes h (omega (arith, le)) in
    let b = eight_back 8 bytes h (omega (arith, le)) in
    let c = eight_back 16 bytes h (omega (arith, le)) in
    rw (a, b, c) (longer 16 0 bytes _ (longer 8 8 bytes _ refl))

pub spans_back : (n : ℕ) (bytes : List ℕ) → IsBytes bytes → 24 * n ≤ length bytes → flat_map span_bytes (spans_in n bytes) ≡ take (24 * n) bytes
spans_back = all_back 24 span_bytes span_in spans_in (λ bytes. refl) (λ n bytes. refl) span_back

pub spans_again : (spans : List Span) (rest : List ℕ) → AllByRecursion IsSpan spans → spans_in (length spans) (flat_map span_bytes spans ++ rest) ≡ spans
spans_again = all_again 24 span_bytes span_in spans_in (λ bytes. refl) (λ n bytes. refl) IsSpan span_again span_behind

pub spans_length : (spans : List Span) → length (flat_map span_bytes spans) ≡ 24 * length spans
spans_length = all_length 24 span_bytes span_in spans_in (λ bytes. refl) (λ n bytes. refl) span_length

span_is : (bytes : List ℕ) → IsBytes bytes → IsSpan (span_in bytes)
unfolding span_in
span_is bytes h = record {
  object = long_below bytes h;
  first = long_below (drop 8 bytes) (bytes_after 8 bytes h);
  last = long_below (drop 16 bytes) (bytes_after 16 bytes h);
}

pub spans_are : (n : ℕ) (bytes : List ℕ) → IsBytes bytes → AllByRecursion IsSpan (spans_in n bytes)
spans_are zero bytes h = tt
spans_are (suc n) bytes h = (span_is bytes h, spans_are n (drop 24 bytes) (bytes_after 24 bytes h))
