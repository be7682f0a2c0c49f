-- The hunks of the spans that were found so far.
use Rattle.std.proofs.Common.{◌≡◌, ◌∙◌, ◌+◌, ◌++◌, ℕ, List, [], ◌∷◌, flat_map, ap, sym, subst, append_assoc, append-nil}
use Rattle.std.proofs.lemmas.List.Concat.{flat_map-append}
use Rattle.line_diff.specs.declared.spans.RowSpan.{RowSpan}
use Rattle.line_diff.specs.Script.{TextRow}
use Rattle.line_diff.specs.Unified.{hunk_text, ShowsHunks}
use Rattle.line_diff.specs.private.Finding.{IsHiddenFrom, IsNextSpan}
use Rattle.line_diff.proofs.Spanning.{AreSpansFrom, are_spans}

-- Spans in front of a row have their hunks: with all spans from that row on they are all.
pub record AreShownTo (rows : List TextRow) (start : ℕ) (text : List ℕ) : Type 0 where
  pub spans : List RowSpan
  pub begun : (rest : List RowSpan) → AreSpansFrom rows start rest → AreSpansFrom rows 0 (spans ++ rest)
  pub hunks : text ≡ flat_map (hunk_text rows) spans

pub none_shown : (rows : List TextRow) (text : List ℕ) → text ≡ [] → AreShownTo rows 0 text
none_shown rows text empty = record { spans = []; begun = λ rest more. more; hunks = empty }

pub one_shown : (rows : List TextRow) (start : ℕ) (span : RowSpan) (text after : List ℕ) → AreShownTo rows start text → IsNextSpan rows start span → after ≡ text ++ hunk_text rows span → AreShownTo rows (span.last + 1) after
one_shown rows start span text after so_far next grown = record {
  spans = so_far.spans ++ span ∷ [];
  begun = λ rest more. subst (AreSpansFrom rows 0) (sym (append_assoc so_far.spans (span ∷ []) rest)) (so_far.begun (span ∷ rest) (next, more));
  hunks = grown ∙ ap (λ t. t ++ hunk_text rows span) so_far.hunks ∙ sym (flat_map-append (hunk_text rows) so_far.spans (span ∷ []) ∙ ap (λ t. flat_map (hunk_text rows) so_far.spans ++ t) (append-nil (hunk_text rows span)));
}

pub all_shown : (rows : List TextRow) (start : ℕ) (text : List ℕ) → AreShownTo rows start text → IsHiddenFrom rows start → ShowsHunks rows text
all_shown rows start text so_far over = record {
  spans = so_far.spans;
  shown = are_spans rows so_far.spans (subst (AreSpansFrom rows 0) (append-nil so_far.spans) (so_far.begun [] over));
  hunks = so_far.hunks;
}
