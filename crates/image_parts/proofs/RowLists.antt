-- Rows and spans one after the other, as loops go over them.
use Rattle.std.proofs.Common.{◌≡◌, ◌≢◌, ℕ, zero, suc, ◌+◌, ◌-◌, ◌*◌, ◌<◌, ◌≤◌, List, [], ◌∷◌, length, drop, Some, None, refl, sym, ap, ◌∙◌, arith}
use Rattle.s4_types.specs.declared.spans.Span.{Span}
use Rattle.std.specs.List.{slice_get}
use Rattle.std.proofs.lemmas.List.{drop-drop}
use Rattle.image_parts.specs.Rows.{row_in, rows_in}
use Rattle.image_parts.specs.Spans.{span_in, spans_in}
use Rattle.image_parts.specs.declared.rows.RowPart.{RowPart}

rows_more : (count : ℕ) (bytes : List ℕ) → count ≢ 0 → rows_in count bytes ≡ row_in bytes ∷ rows_in (count - 1) (drop 40 bytes)
rows_more zero bytes some = absurd (some refl)
rows_more (suc n) bytes some = let k : suc n - 1 ≡ n = omega arith in rw k refl

-- the first of some rows, and those after it
pub next_row : (rows : List RowPart) (count : ℕ) (bytes rest : List ℕ) (row : RowPart) → rows_in count bytes ≡ rows → count ≢ 0 → row ≡ row_in bytes → rest ≡ drop 40 bytes → rows ≡ row ∷ rows_in (count - 1) rest
next_row rows count bytes rest row all some first behind = sym all ∙ rw (first, behind) (rows_more count bytes some)

pub rows_count : (count : ℕ) (bytes : List ℕ) → length (rows_in count bytes) ≡ count
rows_count zero bytes = refl
rows_count (suc n) bytes = omega (arith, rows_count n (drop 40 bytes))

pub spans_count : (count : ℕ) (bytes : List ℕ) → length (spans_in count bytes) ≡ count
spans_count zero bytes = refl
spans_count (suc n) bytes = omega (arith, spans_count n (drop 24 bytes))

-- ---- by index

module _ {X : Type 0} (width : ℕ) (first : List ℕ → X) (firsts : ℕ → List ℕ → List X)
    (none : (bytes : List ℕ) → firsts 0 bytes ≡ []) (more : (n : ℕ) (bytes : List ℕ) → firsts (suc n) bytes ≡ first bytes ∷ firsts n (drop width bytes)) where
  got : (count index : ℕ) (bytes : List ℕ) → index < count → slice_get (firsts count bytes) index ≡ Some (first (drop (width * index) bytes))
  got zero index bytes lt = absurd (omega (arith, lt))
  got (suc n) zero bytes lt =
      let k : width * 0 ≡ 0 = omega arith in
      ap (λ (xs : List X). slice_get xs 0) (more n bytes) ∙ ap (λ (m : ℕ). Some (first (drop m bytes))) (sym k)
  got (suc n) (suc i) bytes lt =
      let k : width * suc i ≡ width + width * i = omega arith in
      ap (λ (xs : List X). slice_get xs (suc i)) (more n bytes) ∙ got n i (drop width bytes) (omega (arith, lt))
      ∙ ap (λ (b : List ℕ). Some (first b)) (drop-drop (width * i) width bytes ∙ ap (λ (m : ℕ). drop m bytes) (sym k))

  got_none : (count index : ℕ) (bytes : List ℕ) → count ≤ index → slice_get (firsts count bytes) index ≡ None
  got_none zero index bytes le = ap (λ (xs : List X). slice_get xs index) (none bytes)
  got_none (suc n) zero bytes le = absurd (omega (arith, le))
  got_none (suc n) (suc i) bytes le = ap (λ (xs : List X). slice_get xs (suc i)) (more n bytes) ∙ got_none n i (drop width bytes) (omega (arith, le))

pub row_got : (rows : List RowPart) (count index : ℕ) (bytes rest : List ℕ) (row : RowPart) → rows_in count bytes ≡ rows → index < count → rest ≡ drop (40 * index) bytes → row ≡ row_in rest → Some row ≡ slice_get rows index
row_got rows count index bytes rest row all lt behind is =
    ap (λ (r : RowPart). Some r) (is ∙ ap row_in behind) ∙ sym (got 40 row_in rows_in (λ b. refl) (λ n b. refl) count index bytes lt) ∙ ap (λ (xs : List RowPart). slice_get xs index) all

pub no_row : (rows : List RowPart) (count index : ℕ) (bytes : List ℕ) → rows_in count bytes ≡ rows → count ≤ index → None ≡ slice_get rows index
no_row rows count index bytes all le = sym (got_none 40 row_in rows_in (λ b. refl) (λ n b. refl) count index bytes le) ∙ ap (λ (xs : List RowPart). slice_get xs index) all

pub span_got : (spans : List Span) (count index : ℕ) (bytes rest : List ℕ) (span : Span) → spans_in count bytes ≡ spans → index < count → rest ≡ drop (24 * index) bytes → span ≡ span_in rest → Some span ≡ slice_get spans index
span_got spans count index bytes rest span all lt behind is =
    ap (λ (s : Span). Some s) (is ∙ ap span_in behind) ∙ sym (got 24 span_in spans_in (λ b. refl) (λ n b. refl) count index bytes lt) ∙ ap (λ (xs : List Span). slice_get xs index) all

pub no_span : (spans : List Span) (count index : ℕ) (bytes : List ℕ) → spans_in count bytes ≡ spans → count ≤ index → None ≡ slice_get spans index
no_span spans count index bytes all le = sym (got_none 24 span_in spans_in (λ b. refl) (λ n b. refl) count index bytes le) ∙ ap (λ (xs : List Span). slice_get xs index) all
