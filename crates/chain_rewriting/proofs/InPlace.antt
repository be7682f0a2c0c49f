-- The loop over entries that are mapped in place: those below an index are mapped.
use Rattle.std.proofs.Common.{◌≡◌, ℕ, zero, suc, ◌+◌, ◌<◌, ◌≤◌, List, [], ◌∷◌, length, get_or, refl, sym, ap, subst, ◌∙◌, add-one, arith}
use Rattle.std.specs.List.{AllByRecursion}
use Rattle.std.proofs.Math.ListN.{set}
use Rattle.s4_types.specs.Pointer.{Place}
use Rattle.codec.specs.Entry.{EntryFields}
use Rattle.chain_rewriting.specs.Mapping.{mapped_entry, mapped_entries}

-- the first this many mapped
pub mapped_before : (Place → Place) → ℕ → List EntryFields → List EntryFields
mapped_before f zero entries = entries
mapped_before f (suc n) [] = []
mapped_before f (suc n) (e ∷ entries) = mapped_entry f e ∷ mapped_before f n entries

pub none_before : (f : Place → Place) (entries : List EntryFields) → entries ≡ mapped_before f 0 entries
unfolding mapped_before
none_before f entries = refl

count_before : (f : Place → Place) (n : ℕ) (entries : List EntryFields) → length (mapped_before f n entries) ≡ length entries
unfolding mapped_before
count_before f zero entries = refl
count_before f (suc n) [] = refl
count_before f (suc n) (e ∷ entries) = ap suc (count_before f n entries)

at_before : (f : Place → Place) (n : ℕ) (entries : List EntryFields) (d : EntryFields) → get_or (mapped_before f n entries) n d ≡ get_or entries n d
unfolding mapped_before
at_before f zero entries d = refl
at_before f (suc n) [] d = refl
at_before f (suc n) (e ∷ entries) d = at_before f n entries d

set_before : (f : Place → Place) (n : ℕ) (entries : List EntryFields) (d : EntryFields) → set (mapped_before f n entries) n (mapped_entry f (get_or entries n d)) ≡ mapped_before f (suc n) entries
unfolding mapped_before
set_before f zero [] d = refl
set_before f zero (e ∷ entries) d = refl
set_before f (suc n) [] d = refl
set_before f (suc n) (e ∷ entries) d = ap (λ es. mapped_entry f e ∷ es) (set_before f n entries d)

-- one more
pub more_before : (f : Place → Place) (n : ℕ) (entries now : List EntryFields) (was is : EntryFields) → now ≡ mapped_before f n entries → was ≡ get_or now n was → is ≡ mapped_entry f was → set now n is ≡ mapped_before f (n + 1) entries
more_before f n entries now was is before at renamed =
    let here : was ≡ get_or entries n was = at ∙ ap (λ es. get_or es n was) before ∙ at_before f n entries was in
    ap (λ es. set es n is) before ∙ ap (λ e. set (mapped_before f n entries) n e) (renamed ∙ ap (mapped_entry f) here) ∙ set_before f n entries was ∙ ap (λ (k : ℕ). mapped_before f k entries) (sym (add-one n))

pub all_before : (f : Place → Place) (n : ℕ) (entries : List EntryFields) → length entries ≤ n → mapped_before f n entries ≡ mapped_entries f entries
unfolding mapped_before
all_before f zero [] h = refl
all_before f zero (e ∷ entries) h = absurd (omega arith)
all_before f (suc n) [] h = refl
all_before f (suc n) (e ∷ entries) h = ap (λ es. mapped_entry f e ∷ es) (all_before f n entries (omega arith))

-- what holds of each entry holds of the one at the index, which is not mapped yet
all_at : (P : EntryFields → Type 0) (entries : List EntryFields) (n : ℕ) (d : EntryFields) → n < length entries → AllByRecursion P entries → P (get_or entries n d)
all_at P [] n d there all = absurd (omega arith)
all_at P (e ∷ entries) zero d there all = all.0
all_at P (e ∷ entries) (suc n) d there all = all_at P entries n d (omega arith) all.1

pub holds_of_next : (P : EntryFields → Type 0) (f : Place → Place) (n : ℕ) (entries now : List EntryFields) (was : EntryFields) → now ≡ mapped_before f n entries → n < length now → was ≡ get_or now n was → AllByRecursion P entries → P was
holds_of_next P f n entries now was before there at all =
    let here : get_or entries n was ≡ was = sym (at ∙ ap (λ es. get_or es n was) before ∙ at_before f n entries was) in
    subst P here (all_at P entries n was (omega (arith, there, ap length before, count_before f n entries)) all)
