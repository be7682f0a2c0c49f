-- Spans that are found one after the other are those of the rows that are shown.
use Rattle.std.proofs.Common.{◌≡◌, ◌≢◌, ◌∙◌, ◌+◌, ◌-◌, ◌<◌, ◌≤◌, ℕ, min, false, List, [], ◌∷◌, length, take, drop, map, inl, inr, ap, ap₂, sym, subst, true≢false, arith}
use Rattle.std.specs.List.{list_any}
use Rattle.std.proofs.lemmas.Bool.{cases_lt}
use Rattle.std.proofs.lemmas.List.{length-map}
use Rattle.line_diff.specs.declared.script.Row.{Row}
use Rattle.line_diff.specs.declared.spans.RowSpan.{RowSpan}
use Rattle.line_diff.specs.Script.{TextRow, row_of}
use Rattle.line_diff.specs.Spans.{is_change, is_near, IsShown, IsInSpans, AreSeparate, AreSpansOf}
use Rattle.line_diff.specs.private.Finding.{IsHiddenFrom, IsNextSpan}
use Rattle.line_diff.proofs.Lists.{range_seen, any_seen}

-- what is near a row of a list is near it where the rows are seen
pub near_seen : (rows : List Row) (at a b : ℕ) → a ≡ at - 3 → b ≡ min (length rows) (at + 4) → list_any (λ row. is_change (row_of row)) (take (b - a) (drop a rows)) ≡ is_near (map row_of rows) at
near_seen rows at a b from to =
    any_seen is_change row_of (take (b - a) (drop a rows)) ∙ ap (list_any is_change) (range_seen row_of rows a b)
    ∙ ap₂ (λ (x y : ℕ). list_any is_change (take (y - x) (drop x (map row_of rows)))) from (to ∙ ap (λ n. min n (at + 4)) (sym (length-map rows row_of)))

-- these are all spans from a row on
abbrev pub AreSpansFrom : List TextRow → ℕ → List RowSpan → Type 0
AreSpansFrom rows start [] = IsHiddenFrom rows start
AreSpansFrom rows start (s ∷ spans) = IsNextSpan rows start s × AreSpansFrom rows (s.last + 1) spans

-- the next span doesn't touch the one in front of it
next_is_separate : (rows : List TextRow) (s : RowSpan) (spans : List RowSpan) → (s.last + 1 < length rows → is_near rows (s.last + 1) ≡ false) → AreSpansFrom rows (s.last + 1) spans → AreSeparate (s.last + 1) spans → AreSeparate (s.last + 2) spans
next_is_separate rows s [] ended found separate = tt
next_is_separate rows s (t ∷ spans) ended found separate =
    let above : s.last + 1 ≤ t.first = separate.0 in
    let ordered : t.first ≤ t.last = separate.1 in
    let within : t.last < length rows = found.0.ends.within in
    let other : s.last + 1 ≢ t.first = λ same.
    true≢false (sym (found.0.ends.run t.first (omega arith) ordered) ∙ subst (λ k. is_near rows k ≡ false) same (ended (omega (arith, same, ordered, within)))) in
    (omega (arith, above, other), ordered, separate.2)

are_separate : (rows : List TextRow) (start : ℕ) (spans : List RowSpan) → AreSpansFrom rows start spans → AreSeparate start spans
are_separate rows start [] found = tt
are_separate rows start (s ∷ spans) found =
    (found.0.begun, found.0.ends.ordered, next_is_separate rows s spans found.0.ends.ended found.1 (are_separate rows (s.last + 1) spans found.1))

-- each row in them is shown
inside_is_shown : (rows : List TextRow) (start : ℕ) (spans : List RowSpan) → AreSpansFrom rows start spans → (i : ℕ) → IsInSpans spans i → IsShown rows i
inside_is_shown rows start [] found i inside = absurd inside
inside_is_shown rows start (s ∷ spans) found i (inl here) = record { within = omega (arith, here.1, found.0.ends.within); near = found.0.ends.run i here.0 here.1 }
inside_is_shown rows start (s ∷ spans) found i (inr later) = inside_is_shown rows (s.last + 1) spans found.1 i later

-- each that is shown is in them
shown_is_inside : (rows : List TextRow) (start : ℕ) (spans : List RowSpan) → AreSpansFrom rows start spans → (i : ℕ) → start ≤ i → IsShown rows i → IsInSpans spans i
shown_is_inside rows start [] found i above shown = absurd (true≢false (sym shown.near ∙ found i above shown.within))
shown_is_inside rows start (s ∷ spans) found i above shown =
    elim (cases_lt i s.first) [
      | inl before ↦ absurd (true≢false (sym shown.near ∙ found.0.hidden i above before))
      | inr up ↦ elim (cases_lt s.last i) [
        | inl beyond ↦ inr (shown_is_inside rows (s.last + 1) spans found.1 i (omega (arith, beyond)) shown)
        | inr down ↦ inl (up, down)
      ]
    ]

pub are_spans : (rows : List TextRow) (spans : List RowSpan) → AreSpansFrom rows 0 spans → AreSpansOf rows spans
are_spans rows spans found = record {
  separate = are_separate rows 0 spans found;
  shown = inside_is_shown rows 0 spans found;
  all = λ i shown. shown_is_inside rows 0 spans found i (omega arith) shown;
}
