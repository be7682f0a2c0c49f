-- The hunks of a script, applied to the old lines, give the new ones.
use Rattle.std.proofs.Common.{◌≡◌, ◌∙◌, ◌+◌, ◌-◌, ◌<◌, ◌≤◌, ◌++◌, ℕ, min, true, false, List, [], ◌∷◌, length, get_or, take, drop, map, inl, inr, refl, ap, ap₂, sym, subst, subst₂, true≢false, take-append-drop, take_all, length-take-le, length-drop, get_or-take, get_or-drop, arith}
use Rattle.std.specs.List.{list_any}
use Rattle.std.proofs.Math.Nat.{le-min, min-le_left}
use Rattle.std.proofs.Math.Seq.{take-append_seam, drop-append_seam}
use Rattle.std.proofs.lemmas.Bool.{cases_Bool, or_parts}
use Rattle.std.proofs.lemmas.List.{drop-drop, get_or_default}
use Rattle.std.proofs.lemmas.List.Folds.{list_any_none, list_any-from_Any}
use Rattle.line_diff.specs.declared.script.Sign.{Sign}
use Rattle.line_diff.specs.declared.script.Sign.TheVariants.{Kept, Removed, Added}
use Rattle.line_diff.specs.declared.spans.RowSpan.{RowSpan}
use Rattle.line_diff.specs.Script.{TextRow, row_with, old_lines, new_lines, Turns, IsScript}
use Rattle.line_diff.specs.Spans.{is_change_sign, is_change, is_near, IsInSpans, AreSeparate, AreSpansOf}
use Rattle.line_diff.specs.Patching.{hunk_of, patched, HunksFit, HunksGiveNew}
use Rattle.line_diff.proofs.Turning.{old_both, new_both, turns_both, turns_kept}
use Rattle.line_diff.proofs.PlaceCounts.{old_joined}

-- ---- a script turns all lines

script_turns : (old new : List (List ℕ)) (rows : List TextRow) → IsScript old new rows → Turns old new rows
script_turns old new rows s =
    let behind = turns_both s.removed s.added s.back s.back s.changes (map (row_with Kept) s.back) s.turns (turns_kept s.back) in
    let whole = turns_both s.front s.front (s.removed ++ s.back) (s.added ++ s.back) (map (row_with Kept) s.front) (s.changes ++ map (row_with Kept) s.back) (turns_kept s.front) behind in
    subst (Turns old new) (sym s.rows) (subst₂ (λ (x y : List (List ℕ)). Turns x y (map (row_with Kept) s.front ++ (s.changes ++ map (row_with Kept) s.back))) (sym s.before) (sym s.after) whole)

-- ---- rows that change nothing

one_more : (sign : Sign) (line : List ℕ) (rows : List TextRow) → is_change_sign sign ≡ false → old_lines rows ≡ new_lines rows → old_lines (row_with sign line ∷ rows) ≡ new_lines (row_with sign line ∷ rows)
one_more Kept line rows none same = ap (λ (l : List (List ℕ)). line ∷ l) same
one_more Removed line rows none same = absurd (true≢false none)
one_more Added line rows none same = absurd (true≢false none)

-- have the same old lines as new ones
unchanged : (rows : List TextRow) → list_any is_change rows ≡ false → old_lines rows ≡ new_lines rows
unchanged [] none = refl
unchanged (row ∷ rows) none =
    let parts = or_parts (is_change row) (list_any is_change rows) none in
    one_more row.sign row.line rows parts.0 (unchanged rows parts.1)

-- rows from one to another, none of which is a change
abbrev AreUnchanged : List TextRow → ℕ → ℕ → Type 0
AreUnchanged rows a b = (i : ℕ) (d : TextRow) → a ≤ i → i < b → is_change (get_or rows i d) ≡ false

unchanged_part : (rows : List TextRow) (a b : ℕ) → b ≤ length rows → AreUnchanged rows a b → old_lines (take (b - a) (drop a rows)) ≡ new_lines (take (b - a) (drop a rows))
unchanged_part rows a b le kept =
    let part = take (b - a) (drop a rows) in
    let count : length part ≡ b - a = length-take-le (b - a) (drop a rows) (omega (arith, le, length-drop a rows)) in
    unchanged part (list_any_none is_change part (λ k d lt.
    let here : k < b - a = omega (arith, lt, count) in
    let same : get_or part k d ≡ get_or rows (a + k) d = get_or-take (b - a) (drop a rows) k d here ∙ get_or-drop a rows k d in
    ap is_change same ∙ kept (a + k) d (omega arith) (omega (arith, here))))

-- ---- a row that isn't shown changes nothing

change_is_near : (rows : List TextRow) (i : ℕ) (d : TextRow) → i < length rows → is_change (get_or rows i d) ≡ true → is_near rows i ≡ true
change_is_near rows i d lt changes =
    let a = i - 3 in
    let b = min (length rows) (i + 4) in
    let window = take (b - a) (drop a rows) in
    let x = get_or rows i d in
    let up : i + 1 ≤ b = le-min (omega (arith, lt)) (omega arith) in
    let down : b ≤ length rows = min-le_left (length rows) (i + 4) in
    let back : a + (i - a) ≡ i = omega arith in
    let count : length window ≡ b - a = length-take-le (b - a) (drop a rows) (omega (arith, down, length-drop a rows)) in
    let within : i - a < b - a = omega (arith, up) in
    let read : get_or window (i - a) x ≡ x = get_or-take (b - a) (drop a rows) (i - a) x within ∙ get_or-drop a rows (i - a) x ∙ ap (λ k. get_or rows k x) back ∙ get_or_default rows i x d lt in
    list_any-from_Any is_change window (i - a, x, omega (arith, within, count), read, changes)

hidden_is_unchanged : (rows : List TextRow) (spans : List RowSpan) → AreSpansOf rows spans → (i : ℕ) (d : TextRow) → i < length rows → (IsInSpans spans i → ⊥) → is_change (get_or rows i d) ≡ false
hidden_is_unchanged rows spans shown i d lt outside =
    elim (cases_Bool (is_change (get_or rows i d))) [
      | inl changes ↦ absurd (outside (shown.all i (record { within = lt; near = change_is_near rows i d lt changes })))
      | inr none ↦ none
    ]

-- ---- lines in front of a row, after it, and from it to another

old_behind : (rows : List TextRow) (a : ℕ) → drop (length (old_lines (take a rows))) (old_lines rows) ≡ old_lines (drop a rows)
old_behind rows a =
    let n = length (old_lines (take a rows)) in
    ap (drop n) (ap old_lines (sym (take-append-drop a rows)) ∙ old_both (take a rows) (drop a rows)) ∙ drop-append_seam (old_lines (take a rows)) (old_lines (drop a rows))

-- rows after one are those up to another and those after it
cut : (rows : List TextRow) (a b : ℕ) → a ≤ b → take (b - a) (drop a rows) ++ drop b rows ≡ drop a rows
cut rows a b le =
    let whole : a + (b - a) ≡ b = omega (arith, le) in
    ap (λ (r : List TextRow). take (b - a) (drop a rows) ++ r) (sym (drop-drop (b - a) a rows ∙ ap (λ k. drop k rows) whole)) ∙ take-append-drop (b - a) (drop a rows)

old_between : (rows : List TextRow) (a b n : ℕ) → a ≤ b → n ≡ length (old_lines (take (b - a) (drop a rows))) → take n (drop (length (old_lines (take a rows))) (old_lines rows)) ≡ old_lines (take (b - a) (drop a rows))
old_between rows a b n le is =
    let part = take (b - a) (drop a rows) in
    let lines : drop (length (old_lines (take a rows))) (old_lines rows) ≡ old_lines part ++ old_lines (drop b rows) = old_behind rows a ∙ ap old_lines (sym (cut rows a b le)) ∙ old_both part (drop b rows) in
    ap₂ (λ (k : ℕ) (l : List (List ℕ)). take k l) is lines ∙ take-append_seam (old_lines part) (old_lines (drop b rows))

new_cut : (rows : List TextRow) (a b : ℕ) → a ≤ b → new_lines (take (b - a) (drop a rows)) ++ new_lines (drop b rows) ≡ new_lines (drop a rows)
new_cut rows a b le = sym (new_both (take (b - a) (drop a rows)) (drop b rows)) ∙ ap new_lines (cut rows a b le)

-- ---- hunk by hunk

-- spans are within rows
abbrev AreWithin : List TextRow → List RowSpan → Type 0
AreWithin rows spans = (i : ℕ) → IsInSpans spans i → i < length rows

-- the rows from one on that are in no span change nothing
abbrev AreElsewhereUnchanged : List TextRow → ℕ → List RowSpan → Type 0
AreElsewhereUnchanged rows start spans = (i : ℕ) (d : TextRow) → start ≤ i → i < length rows → (IsInSpans spans i → ⊥) → is_change (get_or rows i d) ≡ false

separate_from : (low high : ℕ) (spans : List RowSpan) → low ≤ high → AreSeparate high spans → AreSeparate low spans
separate_from low high [] le separate = tt
separate_from low high (s ∷ spans) le separate = (omega (arith, le, separate.0), separate.1, separate.2)

inside_above : (low : ℕ) (spans : List RowSpan) → AreSeparate low spans → (i : ℕ) → IsInSpans spans i → low ≤ i
inside_above low [] separate i inside = absurd inside
inside_above low (s ∷ spans) separate i (inl here) = omega (arith, separate.0, here.0)
inside_above low (s ∷ spans) separate i (inr later) = omega (arith, separate.0, separate.1, inside_above (s.last + 2) spans separate.2 i later)

outside_behind : (start : ℕ) (s : RowSpan) (spans : List RowSpan) (i : ℕ) → s.last + 1 ≤ i → (IsInSpans spans i → ⊥) → IsInSpans (s ∷ spans) i → ⊥
outside_behind start s spans i above outside (inl here) = absurd (omega (arith, above, here.1))
outside_behind start s spans i above outside (inr later) = outside later

outside_before : (start : ℕ) (s : RowSpan) (spans : List RowSpan) → AreSeparate start (s ∷ spans) → (i : ℕ) → i < s.first → IsInSpans (s ∷ spans) i → ⊥
outside_before start s spans separate i below (inl here) = absurd (omega (arith, below, here.0))
outside_before start s spans separate i below (inr later) = absurd (omega (arith, below, separate.1, inside_above (s.last + 2) spans separate.2 i later))

fit : (rows : List TextRow) (start : ℕ) (spans : List RowSpan) → AreSeparate start spans → HunksFit (old_lines rows) (map (hunk_of rows) spans)
fit rows start [] separate = tt
fit rows start (s ∷ spans) separate =
    let part = take (s.last + 1 - s.first) (drop s.first rows) in
    (old_between rows s.first (s.last + 1) (length (old_lines part)) (omega (arith, separate.1)) refl, fit rows (s.last + 2) spans separate.2)

give : (rows : List TextRow) (start : ℕ) (spans : List RowSpan) → start ≤ length rows → AreSeparate start spans → AreWithin rows spans → AreElsewhereUnchanged rows start spans
    → patched (old_lines rows) (length (old_lines (take start rows))) (map (hunk_of rows) spans) ≡ new_lines (drop start rows)
give rows start [] le separate within kept =
    let n = length rows in
    let all : take (n - start) (drop start rows) ≡ drop start rows = take_all (n - start) (drop start rows) (omega (arith, length-drop start rows)) in
    let same = unchanged_part rows start n (omega arith) (λ i d above below. kept i d above below (λ none. none)) in
    old_behind rows start ∙ subst (λ (r : List TextRow). old_lines r ≡ new_lines r) all same
give rows start (s ∷ spans) le separate within kept =
    let first = s.first in
    let next = s.last + 1 in
    let last_within : s.last < length rows = within s.last (inl (separate.1, omega arith)) in
    let front = take (first - start) (drop start rows) in
    let part = take (next - first) (drop first rows) in
    let old_start = length (old_lines (take start rows)) in
    let old_first = length (old_lines (take first rows)) in
    let ordered : first ≤ next = omega (arith, separate.1) in
    let count : old_first - old_start ≡ length (old_lines front) = omega (arith, old_joined rows start first separate.0) in
    let front_kept : old_lines front ≡ new_lines front = unchanged_part rows start first (omega (arith, separate.1, last_within))
    (λ i d above below. kept i d above (omega (arith, below, separate.1, last_within)) (outside_before start s spans separate i below)) in
    let front_is : take (old_first - old_start) (drop old_start (old_lines rows)) ≡ new_lines front = old_between rows start first (old_first - old_start) separate.0 count ∙ front_kept in
    let rest : patched (old_lines rows) (old_first + length (old_lines part)) (map (hunk_of rows) spans) ≡ new_lines (drop next rows) =
    ap (λ k. patched (old_lines rows) k (map (hunk_of rows) spans)) (old_joined rows first next ordered)
    ∙ give rows next spans (omega (arith, last_within)) (separate_from next (s.last + 2) spans (omega arith) separate.2) (λ i inside. within i (inr inside))
    (λ i d above below outside. kept i d (omega (arith, above, separate.0, separate.1)) below (outside_behind start s spans i above outside)) in
    ap₂ (λ (x y : List (List ℕ)). x ++ (new_lines part ++ y)) front_is rest ∙ ap (λ (x : List (List ℕ)). new_lines front ++ x) (new_cut rows first next ordered) ∙ new_cut rows start first separate.0

pub hunks_give_new : HunksGiveNew
hunks_give_new old new rows spans script shown =
    let turns = script_turns old new rows script in
    let given = give rows 0 spans (omega arith) shown.separate (λ i inside. (shown.shown i inside).within) (λ i d above below outside. hidden_is_unchanged rows spans shown i d below outside) in (
      subst (λ (x : List (List ℕ)). HunksFit x (map (hunk_of rows) spans)) turns.before (fit rows 0 spans shown.separate),
      subst (λ (x : List (List ℕ)). patched x 0 (map (hunk_of rows) spans) ≡ new_lines rows) turns.before given ∙ turns.after,
    )
