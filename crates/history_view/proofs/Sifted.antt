-- What rows of an object come to.
use Rattle.std.proofs.Common.{◌≡◌, ◌∙◌, ◌-◌, ◌≤◌, ℕ, List, [], ◌∷◌, length, get_or, count_by, Some, ap, ap₂, subst, arith}
use Rattle.history_view.specs.declared.rows.LogRow.{LogRow}
use Rattle.history_view.specs.declared.stats.KindCounts.{KindCounts}
use Rattle.history_view.specs.LogRows.{begins, kinds_in, last_moment, moment_of, stat_of}

last_got : (row : LogRow) (rows : List LogRow) (e : LogRow) → e ≡ get_or (row ∷ rows) (length rows) e → moment_of e ≡ last_moment (moment_of row) rows
last_got row [] e is = ap moment_of is
last_got row (next ∷ rows) e is = last_got next rows e is

-- of two rows or more, by the first and the last
pub stat_is : (o : ℕ) (rows : List LogRow) (changes : ℕ) (kinds : KindCounts) (first last : ℕ) (d e : LogRow) → 2 ≤ length rows → d ≡ get_or rows 0 d → e ≡ get_or rows (length rows - 1) e → changes ≡ count_by begins rows → kinds ≡ kinds_in rows
    → first ≡ moment_of d → last ≡ moment_of e → Some (record { object = o; changes = changes; kinds = kinds; first = first; last = last }) ≡ stat_of o rows
stat_is o [] changes kinds first last d e two begun ended counted sorted from to = absurd (omega arith)
stat_is o (row ∷ rows) changes kinds first last d e two begun ended counted sorted from to =
    let behind : length (row ∷ rows) - 1 ≡ length rows = omega arith in
    let start : first ≡ moment_of row = from ∙ ap moment_of begun in
    let end : last ≡ last_moment (moment_of row) rows = to ∙ last_got row rows e (subst (λ n. e ≡ get_or (row ∷ rows) n e) behind ended) in
    ap₂ (λ n (k : KindCounts). Some (record { object = o; changes = n; kinds = k; first = first; last = last })) counted sorted
    ∙ ap₂ (λ a b. Some (record { object = o; changes = count_by begins (row ∷ rows); kinds = kinds_in (row ∷ rows); first = a; last = b })) start end
