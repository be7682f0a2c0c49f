-- The bytes of the first of a block's entries, while they are given from the last to the first.
use Rattle.std.proofs.Common.{◌≡◌, ℕ, ◌+◌, List, [], ◌∷◌, ◌++◌, reverse, refl, sym, ap, ◌∙◌, append_assoc, arith}
use Rattle.std.proofs.lemmas.List.{reverse-append}
use Rattle.codec.specs.Entry.{EntryFields, entry_length_by, entries_length_by}
use Rattle.codec.specs.declared.versions.ImageVersion.{ImageVersion}
use Rattle.codec.proofs.JournalEntries.{by_none}
use Rattle.image_objects.proofs.Bytes.{by_push}

-- the bytes of the first entry, or the number given where there is none
abbrev pub first_or : ImageVersion → List EntryFields → ℕ → ℕ
first_or v [] size = size
first_or v (e ∷ entries) size = entry_length_by v e

pub first_given : (v : ImageVersion) (entries : List EntryFields) (e : EntryFields) (size : ℕ) → first_or v entries (entry_length_by v e) ≡ first_or v (entries ++ e ∷ []) size
first_given v [] e size = refl
first_given v (x ∷ entries) e size = refl

-- ---- one entry was given, and is kept before those that were given earlier

pub entries_given : (rest given items later whole : List EntryFields) (e : EntryFields) → rest ≡ given ++ e ∷ [] → later ≡ items ++ e ∷ [] → rest ++ reverse items ≡ whole → given ++ reverse later ≡ whole
entries_given rest given items later whole e pops pushes is =
    ap (λ (l : List EntryFields). given ++ reverse l) pushes
    ∙ ap (λ (l : List EntryFields). given ++ l) (reverse-append items (e ∷ []))
    ∙ sym (append_assoc given (e ∷ []) (reverse items))
    ∙ ap (λ (l : List EntryFields). l ++ reverse items) (sym pops)
    ∙ is

pub bytes_given : (v : ImageVersion) (rest given : List EntryFields) (e : EntryFields) (all size whole : ℕ) → rest ≡ given ++ e ∷ [] → size ≡ entry_length_by v e → entries_length_by v rest + all ≡ whole → entries_length_by v given + (all + size) ≡ whole
bytes_given v rest given e all size whole pops is sum =
    let more : entries_length_by v rest ≡ entries_length_by v (given ++ e ∷ []) = ap (entries_length_by v) pops in
    omega (arith, more, by_push v given e, is, sum)

pub first_left : (v : ImageVersion) (rest given : List EntryFields) (e : EntryFields) (size first whole : ℕ) → rest ≡ given ++ e ∷ [] → size ≡ entry_length_by v e → first_or v rest first ≡ whole → first_or v given size ≡ whole
first_left v rest given e size first whole pops is sum =
    ap (first_or v given) is ∙ first_given v given e first ∙ ap (λ (l : List EntryFields). first_or v l first) (sym pops) ∙ sum

-- all entries were given
pub bytes_of_all : (v : ImageVersion) (rest : List EntryFields) (all whole : ℕ) → rest ≡ [] → entries_length_by v rest + all ≡ whole → all ≡ whole
bytes_of_all v rest all whole none sum =
    let nothing : entries_length_by v rest ≡ entries_length_by v [] = ap (entries_length_by v) none in
    omega (arith, nothing, by_none v, sum)
