-- The bytes of entries, one entry after another.
use Rattle.std.proofs.Common.{◌≡◌, ℕ, ◌+◌, ◌<◌, None, List, [], ◌∷◌, ◌++◌, take, drop, sym, ap, leb, arith}
use Rattle.std.proofs.lemmas.Bool.{lt-leb}
use Rattle.std.proofs.lemmas.List.{take-append-drop}
use Rattle.codec.specs.Fields.{kept}
use Rattle.codec.specs.Entry.{EntryFields, entry_length_by, entries_length_by}
use Rattle.codec.specs.declared.versions.ImageVersion.{ImageVersion}
use Rattle.codec.proofs.JournalEntries.{by_none}
use Rattle.codec.proofs.Lengths.{length_next}

-- ---- the same in an image of a version

by_append : (v : ImageVersion) (xs ys : List EntryFields) → entries_length_by v (xs ++ ys) ≡ entries_length_by v xs + entries_length_by v ys
by_append v [] ys = omega (arith, by_none v)
by_append v (e ∷ xs) ys = omega (arith, length_next v e (xs ++ ys), length_next v e xs, by_append v xs ys)

pub by_push : (v : ImageVersion) (xs : List EntryFields) (e : EntryFields) → entries_length_by v (xs ++ e ∷ []) ≡ entries_length_by v xs + entry_length_by v e
by_push v xs e = omega (arith, by_append v xs (e ∷ []), length_next v e [], by_none v)

-- more than a chain may have, already in the first ones
pub too_many : (v : ImageVersion) (most n : ℕ) (entries : List EntryFields) → most < entries_length_by v (take n entries) → None ≡ kept (leb (entries_length_by v entries) most) (entries_length_by v entries)
too_many v most n entries over =
    let whole : entries_length_by v (take n entries ++ drop n entries) ≡ entries_length_by v entries = ap (entries_length_by v) (take-append-drop n entries) in
    let all : most < entries_length_by v entries = omega (arith, by_append v (take n entries) (drop n entries), whole, over) in
    sym (ap (λ b. kept b (entries_length_by v entries)) (lt-leb (entries_length_by v entries) most all))
